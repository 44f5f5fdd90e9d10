use Rattle.std.proofs.Common.{◌≡◌, ◌<◌, ℕ}
use Rattle.nl_blocktree.specs.Walked.{is_met}
use Rattle.nl_check.specs.Periods.{has_in}
use Rattle.nl_check.proofs.periods.are_of_periods.Given as goal

abbrev pub invariant-loop-at : goal.invariant-loop-at
invariant-loop-at g l = (v : ℕ) → v < l.at → is_met l.met v ≡ has_in l.number (g.V.VRead.periods l.store v)
