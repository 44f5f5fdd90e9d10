use Rattle.std.proofs.Common.{◌≡◌, ◌*◌, List, take, length}
use Rattle.std.specs.List.{All, flat_map}
use Rattle.nl_types.specs.declared.segment.SegmentInfo.{SegmentInfo}
use Rattle.nl_layout.specs.Segment.{HasSpelling, segment_bytes}
use Rattle.nl_sufile.specs.Images.{AreEntriesOf, IsSoundSegment}
use Rattle.nl_sufile.proofs.images.read_entries.Given as goal

abbrev pub invariant-loop-i : goal.invariant-loop-i
invariant-loop-i l = record {
  read : take (16 * l.i) l.bytes ≡ flat_map segment_bytes l.each.items;
  count : length l.each.items ≡ l.i;
  fit : All HasSpelling l.each.items;
  sound : All (IsSoundSegment l.geometry.blocks) l.each.items;
  only : (each : List SegmentInfo) → AreEntriesOf l.geometry l.bytes each → l.each.items ≡ take l.i each;
}
