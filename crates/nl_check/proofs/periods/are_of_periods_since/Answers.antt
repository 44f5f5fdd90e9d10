use Rattle.std.proofs.Common.{◌∙◌, sym}
use Rattle.std.proofs.lemmas.Map.Keys.{le_from_not_gt}
use Rattle.nl_check.proofs.PeriodsBetween.{of-periods-since}
use Rattle.nl_check.proofs.periods.are_of_periods_since.Goals as goal

pub returns-clause-yes : goal.returns-clause-yes
returns-clause-yes g c = λ turned.
    of-periods-since (g.V.VRead.periods c.args.store.now) c.args.last c.args.next c.args.met.now
    c.args.changed.now (le_from_not_gt c.args.last c.args.next (sym c.gt.ensures ∙ c.if-gt.false))
    c.requires.last (c.are_these_of_periods.ensures.0 c.if-not-are_these_of_periods.false)
    (c.are_turned_of_periods.ensures.yes turned)
