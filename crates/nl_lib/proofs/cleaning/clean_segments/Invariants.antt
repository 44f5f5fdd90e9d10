use Rattle.std.proofs.Common.{◌≡◌, ◌+◌, drop}
use Rattle.nl_commit.specs.Layout.{Layout}
use Rattle.nl_lib.specs.CleanedSegments.{CleansSegments}
use Rattle.nl_lib.specs.declared.cleaning.Cleaned.{Cleaned}
use Rattle.nl_lib.proofs.cleaning.clean_segments.Given as goal

-- what goes on from here goes on from the start, with the segments that were retired so far
abbrev pub invariant-loop-segment : goal.invariant-loop-segment
invariant-loop-segment g l = record {
  count : l.retired ≡ l.segment-index;
  so_far : (result : Cleaned) (new : Layout)
      → CleansSegments l.fn.now (drop l.segment-index l.segments) l.pen result new
      → CleansSegments l.fn.now l.segments l.fn.pen
      (record result { retired = l.retired + result.retired }) new;
}
