use Rattle.std.proofs.Common.{subst, sym}
use Rattle.nl_reclaim.specs.Counted.{IsCounted}
use Rattle.nl_reclaim.proofs.EventSteps.{after-reserve}
use Rattle.nl_reclaim.proofs.needed_counts.NeededCounts.reserve.Goals as goal

pub returns-clause-counted : goal.returns-clause-counted
returns-clause-counted c = λ s kept counted.
    after-reserve c.reserve.result c.self.inside.counts c.self.inside.ends c.reserve.new.self
    c.reserve.ensures.swept c.reserve.ensures.same s kept
    (subst (IsCounted s kept) (sym c.self.view_is) counted)
