use Rattle.std.proofs.Common.{◌≡◌, ◌*◌, ◌++◌, take, drop}
use Rattle.std.specs.List.{All, flat_map}
use Rattle.nl_layout.specs.Segment.{HasSpelling, segment_bytes}
use Rattle.nl_sufile.proofs.images.write_entries.Given as goal

abbrev pub invariant-loop-i : goal.invariant-loop-i
invariant-loop-i l = record {
  written : l.out ≡ flat_map segment_bytes (take l.i l.each) ++ drop (16 * l.i) l.fn.out;
  fit : All HasSpelling (take l.i l.each);
}
