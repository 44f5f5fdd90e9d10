use Rattle.std.proofs.Common.{sym, ◌∙◌}
use Rattle.nl_types.specs.Blocks.Entries.{is_needed}
use Rattle.nl_vstore.specs.Located.{needs}
use Rattle.nl_vstore.specs.Stores.{content_in}
use Rattle.nl_reclaim.proofs.LetGo.{one-taken-off}
use Rattle.nl_reclaim.proofs.SegmentsOf.{follow-laws}
use Rattle.nl_reclaim.proofs.letting_go.take_one_off.Goals as goal

pub returns : goal.returns
returns g c = λ left listed lists.
    let store = g.V.Vstore.store c.args.store.now in
    one-taken-off (follow-laws c.counts_follow_blocks.ensures.added c.counts_follow_blocks.ensures.taken
    c.counts_follow_blocks.ensures.few c.counts_follow_blocks.ensures.some)
    store (g.met.V.Vstore.is_store c.args.store.now)
    (needs (is_needed (g.K.Keeping.kept c.args.keeping.now)) (content_in store)) c.args.counts.now
    c.take_off.new.counts
    left c.args.index c.in-Some.number listed
    (record { within = lists.within; there = lists.there ∙ (sym c.number.ensures ∙ c.in-Some.is) })
    c.take_off.result c.take_off.ensures.told c.take_off.ensures.taken c.take_off.ensures.same
