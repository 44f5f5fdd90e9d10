use Rattle.nl_types.specs.Plain.Protection.{staying_numbers}
use Rattle.nl_cpfile.specs.Tables.{all, kept_numbers, rows}
use Rattle.nl_events.specs.Facts.CountedPens.{counts-left}
use Rattle.nl_events.proofs.parts.Parts.counts_after.Goals as goal

pub returns-clause-counts : goal.returns-clause-counts
returns-clause-counts g c =
    let table = c.checkpoints-kept.result.now.table in
    rw (← c.self.view_is, ← c.checkpoints-kept.ensures)
    (counts-left c.after.result (g.V.Vstore.store c.self.inside.store) c.self.inside.needed
    _ _ (kept_numbers (all table)) (staying_numbers c.args.below (rows table))
    c.after.ensures.counts (rw c.checkpoints-kept.ensures c.self.invariant.counts)
    c.expiring_run-gone.ensures.run)
