use Rattle.std.proofs.Common.{subst, sym, ◌∙◌}
use Rattle.nl_types.specs.Blocks.Entries.{is_needed}
use Rattle.nl_vstore.specs.Located.{needs}
use Rattle.nl_vstore.specs.Stores.{content_in}
use Rattle.nl_reclaim.specs.EndLists.{RoomyEnds}
use Rattle.nl_reclaim.specs.PrivateCounts.Listed.{AreListed}
use Rattle.nl_reclaim.proofs.LetGo.{taken-listed}
use Rattle.nl_reclaim.proofs.SegmentsOf.{follow-laws}
use Rattle.nl_reclaim.proofs.letting_go.let_one_go.Goals as goal

pub returns-then-take_off-clause-listed : goal.returns-then-take_off-clause-listed
returns-then-take_off-clause-listed g c =
    let store = g.V.Vstore.store c.args.store.now in
    subst (λ (r : RoomyEnds). AreListed store c.take_off.new.counts r.ended) (sym c.blank.ensures)
    (taken-listed (follow-laws c.counts_follow_blocks.ensures.added c.counts_follow_blocks.ensures.taken
    c.counts_follow_blocks.ensures.few c.counts_follow_blocks.ensures.some)
    store (g.met.V.Vstore.is_store c.args.store.now)
    (needs (is_needed (g.K.Keeping.kept c.args.keeping.now)) (content_in store)) c.args.counts.now
    c.take_off.new.counts
    c.args.ends.now.ended c.args.index c.in-Some.number c.requires.listed
    (record { within = c.requires.index; there = sym c.number.ensures ∙ c.in-Some.is })
    c.if-take_off.ensures.taken)
