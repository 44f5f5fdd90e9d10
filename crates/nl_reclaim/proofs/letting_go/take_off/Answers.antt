use Rattle.std.proofs.Common.{◌≡◌, ℕ, Option, None, Some, sym, ◌∙◌}
use Rattle.nl_reclaim.proofs.LetGo.{some-to-take}
use Rattle.nl_reclaim.proofs.SegmentsOf.{follow-laws}
use Rattle.nl_reclaim.proofs.letting_go.take_off.Goals as goal

pub take-requires-clause-some : goal.take-requires-clause-some
take-requires-clause-some g c =
    let (ends, index, listed, lists) = c.requires in
    some-to-take (follow-laws c.counts_follow_blocks.ensures.added c.counts_follow_blocks.ensures.taken
    c.counts_follow_blocks.ensures.few c.counts_follow_blocks.ensures.some)
    (g.V.Vstore.store c.args.store.now)
    (g.met.V.Vstore.is_store c.args.store.now) c.args.counts.now ends index c.args.number c.in-Some.segment
    lists.within listed lists.there
    c.in-Some.ensures.0 c.in-Some.ensures.1

pub unreachable-requires : goal.unreachable-requires
unreachable-requires g c =
    let (ends, index, listed, lists) = c.requires in
    let (b, stands) = listed.in_use index c.args.number lists.there in
    let wrong : ◌≡◌ {A = Option ℕ} None (Some b) = sym c.in-None.ensures ∙ stands in
    cc
