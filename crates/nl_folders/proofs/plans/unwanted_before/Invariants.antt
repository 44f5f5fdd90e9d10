use Rattle.std.proofs.Common.{◌≤◌, length}
use Rattle.nl_folders.specs.declared.plans.Stage.TheVariants.{Clearing}
use Rattle.nl_folders.specs.Private.Stages.{NeedsNoCall}
use Rattle.nl_folders.proofs.plans.unwanted_before.Given as goal

abbrev pub invariant-loop-left : goal.invariant-loop-left
invariant-loop-left l = record {
  below : l.left ≤ l.initial.left;
  within : l.left ≤ length l.sides.present;
  kept : NeedsNoCall l.sides (Clearing l.initial.left) (Clearing l.left);
}

abbrev pub decreases-loop-left : goal.decreases-loop-left
decreases-loop-left l = l.left
