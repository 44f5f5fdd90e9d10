use Rattle.std.proofs.Common.{◌≤◌, drop, length}
use Rattle.nl_folders.specs.Private.Looking.{BeginsNotBelow}
use Rattle.nl_folders.proofs.looking.sunk.Given as goal

abbrev pub invariant-loop-place : goal.invariant-loop-place
invariant-loop-place l = (l.place ≤ length l.entries) × BeginsNotBelow l.path (drop l.place l.entries)

abbrev pub decreases-loop-place : goal.decreases-loop-place
decreases-loop-place l = l.place
