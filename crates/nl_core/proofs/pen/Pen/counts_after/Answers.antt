use Rattle.nl_core.proofs.pen.Pen.counts_after.Goals as goal

pub returns-clause-counts : goal.returns-clause-counts
returns-clause-counts g c = rw (← c.self.view_is) c.counts_after.ensures.counts
