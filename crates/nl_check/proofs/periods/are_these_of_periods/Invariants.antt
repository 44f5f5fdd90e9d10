use Rattle.std.proofs.Common.{take}
use Rattle.std.specs.List.{All}
use Rattle.nl_check.specs.Private.Turns.{IsOfPeriod}
use Rattle.nl_check.proofs.periods.are_these_of_periods.Given as goal

abbrev pub invariant-loop-name : goal.invariant-loop-name
invariant-loop-name g l =
    All (IsOfPeriod (g.V.VRead.periods l.store) l.number l.met) (take l.name-index l.names)
