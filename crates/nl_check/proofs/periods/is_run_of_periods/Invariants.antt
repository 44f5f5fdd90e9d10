use Rattle.std.specs.List.{AllWithin}
use Rattle.nl_check.specs.Private.Turns.{IsTurnOfPeriod}
use Rattle.nl_check.proofs.periods.is_run_of_periods.Given as goal

abbrev pub invariant-loop-at : goal.invariant-loop-at
invariant-loop-at g l =
    AllWithin (IsTurnOfPeriod (g.V.VRead.periods l.store) l.number l.met) l.turns l.first l.at
