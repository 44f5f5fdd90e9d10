use Rattle.nl_check.proofs.PeriodsBetween.{turned}
use Rattle.nl_check.proofs.periods.are_turned_of_periods.Goals as goal

pub returns-clause-yes : goal.returns-clause-yes
returns-clause-yes g c = λ all.
    turned c.args.turns.now c.args.last c.args.next c.reach-first.result c.reach-end.result
    c.reach-first.ensures.point c.reach-end.ensures.point (g.V.VRead.periods c.args.store.now) c.args.met.now
    c.requires (c.is_run_of_periods.ensures.0 all)
