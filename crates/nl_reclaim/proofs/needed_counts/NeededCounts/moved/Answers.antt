use Rattle.std.proofs.Common.{subst, sym, refl}
use Rattle.nl_reclaim.specs.Counted.{IsCounted}
use Rattle.nl_reclaim.proofs.EventSteps.{after-moved, before-moved}
use Rattle.nl_reclaim.proofs.needed_counts.NeededCounts.moved.Goals as goal

pub count_moves-requires : goal.count_moves-requires
count_moves-requires g c =
    let (old, kept, counted, has) = c.requires in
    before-moved c.needed_numbers_are_counted.ensures c.args.segment c.args.numbers.now
    (g.V.Vstore.store c.args.store.now) (g.met.V.Vstore.is_store c.args.store.now)
    old kept _ (subst (IsCounted old kept) (sym c.self.view_is) counted) has

pub returns : goal.returns
returns g c = λ old kept counted has.
    after-moved c.needed_numbers_are_counted.ensures c.args.segment c.args.numbers.now
    (g.V.Vstore.store c.args.store.now) (g.met.V.Vstore.is_store c.args.store.now)
    _ _ c.count_moves.ensures refl old kept (subst (IsCounted old kept) (sym c.self.view_is) counted) has
