use Rattle.std.proofs.Common.{drop}
use Rattle.nl_script.specs.Outcomes.{all_outcomes}
use Rattle.nl_script.specs.Private.Tellings.{HasToldFirst}
use Rattle.nl_script.proofs.telling.tell_events.Given as goal

-- the events so far are told of
abbrev pub invariant-loop-index : goal.invariant-loop-index
invariant-loop-index g l =
    HasToldFirst l.line l.quiet (all_outcomes (drop l.index l.events) (drop l.index l.replies))
    (all_outcomes l.events l.replies)
    l.fn.told l.told (g.W.Write.contents l.fn.out) (g.W.Write.contents l.out)
