use Rattle.std.proofs.Common.{ℕ, length, replicate, ap, arith, ◌∙◌}
use Rattle.nl_types.specs.Blocks.Segments.{Segments}
use Rattle.nl_reclaim.proofs.EventSteps.{after-walk}
use Rattle.nl_reclaim.proofs.needed_counts.NeededCounts.of_store.Goals as goal

pub overflow_cast-segments : goal.overflow_cast-segments
overflow_cast-segments g c =
    let sound = g.met.V.Vstore.is_store c.args.store.now in
    let most = sound.limits.geometry.most_segments in
    let same = ap (λ (s : Segments). length s.each) c.table.ensures in
    omega (arith, c.sustat-segments.ensures.segments, same, most)

pub walk-requires : goal.walk-requires
walk-requires g c =
    c.in_ok-counts.ensures.zeros
    ∙ ap (λ (n : ℕ). replicate n 0)
    (c.sustat-segments.ensures.segments ∙ ap (λ (s : Segments). length s.each) c.table.ensures)

pub returns-clause-counted : goal.returns-clause-counted
returns-clause-counted g c = λ latest last.
    after-walk c.needed_numbers_are_counted.ensures (g.V.Vstore.store c.args.store.now)
    (g.met.V.Vstore.is_store c.args.store.now) (g.K.Keeping.kept c.args.keeping.now)
    _ _ _ c.in_ok-ended.ensures c.from_found.ensures.rising c.from_found.ensures.same _ latest last
