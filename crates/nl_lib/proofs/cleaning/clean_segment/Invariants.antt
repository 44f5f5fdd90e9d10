use Rattle.std.proofs.Common.{ℕ}
use Rattle.nl_commit.specs.Layout.{IsPen}
use Rattle.nl_lib.specs.CleanedSegments.{AreMoved}
use Rattle.nl_lib.proofs.MovedAway.{needed_of}
use Rattle.nl_lib.proofs.cleaning.clean_segment.Given as goal

abbrev pub invariant-loop-last : goal.invariant-loop-last
invariant-loop-last g l = record {
  held : IsPen l.pen;
  moved : (n : ℕ) × AreMoved l.fn.segment l.fn.now n l.fn.pen l.pen;
}

abbrev pub decreases-loop-last : goal.decreases-loop-last
decreases-loop-last g l = needed_of l.pen l.segment
