use Rattle.nl_check.specs.Private.Turns.{HasTurnsBelow}
use Rattle.nl_check.proofs.turns.turns_below.Given as goal

abbrev pub invariant-loop-at : goal.invariant-loop-at
invariant-loop-at g l = HasTurnsBelow (g.V.VRead.periods l.store) l.at l.turns.items
