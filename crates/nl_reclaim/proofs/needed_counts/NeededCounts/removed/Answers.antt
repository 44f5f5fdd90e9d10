use Rattle.std.proofs.Common.{subst, sym}
use Rattle.std.specs.List.Sorted.{IsNonDecreasingBy}
use Rattle.nl_reclaim.specs.Counted.{Counted, IsCounted}
use Rattle.nl_reclaim.specs.EndLists.{end_of}
use Rattle.nl_reclaim.proofs.EventSteps.{after-removed, is-listed}
use Rattle.nl_reclaim.proofs.needed_counts.NeededCounts.removed.Goals as goal

pub run-from-requires-clause-rising : goal.run-from-requires-clause-rising
run-from-requires-clause-rising g c =
    subst (λ (n : Counted). IsNonDecreasingBy end_of n.ends)
    (sym c.self.view_is) c.requires.counted.1.ends.rising

pub let_go-requires-clause-listed : goal.let_go-requires-clause-listed
let_go-requires-clause-listed g c =
    is-listed c.needed_numbers_are_counted.ensures (g.V.Vstore.store c.args.store.now)
    (g.met.V.Vstore.is_store c.args.store.now) c.requires.counted.0
    (record {
      counts = c.self.inside.counts;
      ends = c.self.inside.ends.ended;
      room = c.self.inside.ends.room;
    })
    (subst (IsCounted (g.V.Vstore.store c.args.store.now) c.requires.counted.0)
    (sym c.self.view_is) c.requires.counted.1)

pub returns : goal.returns
returns g c = λ kept counted removed.
    after-removed c.needed_numbers_are_counted.ensures (g.V.Vstore.store c.args.store.now)
    (g.met.V.Vstore.is_store c.args.store.now)
    (record { fewer = c.removals_let_a_run_go.ensures.fewer; run = c.removals_let_a_run_go.ensures.run })
    (g.K.Keeping.kept c.args.keeping.now)
    c.args.first c.args.next _ _
    (record {
      counts = c.self.inside.counts;
      ends = c.self.inside.ends.ended;
      room = c.self.inside.ends.room;
    })
    c.run-from.ensures _ _ c.let_go.ensures.listed c.let_go.ensures.gone _ kept
    (subst (IsCounted (g.V.Vstore.store c.args.store.now) kept) (sym c.self.view_is) counted) removed
