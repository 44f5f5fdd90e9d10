use Rattle.std.proofs.Common.{drop, map}
use Rattle.nl_script.specs.Outcomes.{stays_outcome}
use Rattle.nl_script.specs.Private.Tellings.{HasToldFirst}
use Rattle.nl_script.proofs.telling.tell_stayed.Given as goal

-- the checkpoints so far are told of
abbrev pub invariant-loop-stays : goal.invariant-loop-stays
invariant-loop-stays g l =
    HasToldFirst l.line l.quiet (map stays_outcome (drop l.stays-index l.stayed)) (map stays_outcome l.stayed)
    l.fn.told l.told (g.W.Write.contents l.fn.out) (g.W.Write.contents l.out)
