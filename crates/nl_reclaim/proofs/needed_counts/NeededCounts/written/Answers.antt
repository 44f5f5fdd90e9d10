use Rattle.std.proofs.Common.{subst, sym}
use Rattle.nl_reclaim.specs.Counted.{IsCounted}
use Rattle.nl_reclaim.proofs.EventSteps.{after-written, before-written}
use Rattle.nl_reclaim.proofs.needed_counts.NeededCounts.written.Goals as goal

pub count_births-requires : goal.count_births-requires
count_births-requires g c =
    let (old, kept, counted, next) = c.requires.counted in
    before-written c.needed_numbers_are_counted.ensures c.checkpoints_keep_needs.ensures
    c.writes_are_by_number.ensures c.args.checkpoint c.args.batch.now c.births.result.now
    c.births.ensures (g.V.Vstore.store c.args.store.now) (g.met.V.Vstore.is_store c.args.store.now) old kept _
    (subst (IsCounted old kept) (sym c.self.view_is) counted) next

pub returns : goal.returns
returns g c = λ old kept counted next.
    after-written c.needed_numbers_are_counted.ensures c.checkpoints_keep_needs.ensures
    c.writes_are_by_number.ensures c.args.checkpoint c.args.batch.now c.births.result.now
    c.births.ensures (g.V.Vstore.store c.args.store.now)
    (g.met.V.Vstore.is_store c.args.store.now) _ _ c.ends.result.now c.ends.ensures c.count_births.ensures
    c.note.ensures.ended
    old kept (subst (IsCounted old kept) (sym c.self.view_is) counted) next
