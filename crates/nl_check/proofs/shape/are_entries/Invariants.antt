use Rattle.std.proofs.Common.{◌<◌, ℕ}
use Rattle.nl_check.specs.Private.InodeBlocks.{IsSpelled}
use Rattle.nl_check.proofs.shape.are_entries.Given as goal

abbrev pub invariant-loop-place : goal.invariant-loop-place
invariant-loop-place l = (p : ℕ) → p < l.place → IsSpelled l.page p
