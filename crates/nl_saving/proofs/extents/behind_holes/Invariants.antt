use Rattle.std.proofs.Common.{◌≤◌, ◌-◌, length}
use Rattle.nl_saving.specs.Extents.{AreZeros, IsBound}
use Rattle.nl_saving.proofs.extents.behind_holes.Given as goal

abbrev pub invariant-loop-at : goal.invariant-loop-at
invariant-loop-at l = record {
  ascends : l.from ≤ l.at;
  zeros : AreZeros l.bytes l.from l.at;
  bound : IsBound (length l.bytes) l.at;
}

abbrev pub decreases-loop-at : goal.decreases-loop-at
decreases-loop-at l = length l.bytes - l.at
