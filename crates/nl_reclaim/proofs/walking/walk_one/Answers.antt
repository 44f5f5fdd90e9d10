use Rattle.std.proofs.Common.{ap, sym, ◌∙◌}
use Rattle.nl_types.specs.Blocks.Entries.{is_needed}
use Rattle.nl_reclaim.specs.EndLists.{with_found}
use Rattle.nl_reclaim.proofs.SegmentsOf.{follow-laws}
use Rattle.nl_reclaim.proofs.WalkedCounts.{walk-counted, walk-past}
use Rattle.nl_reclaim.proofs.walking.walk_one.Goals as goal

pub returns-in_ok-note_end : goal.returns-in_ok-note_end
returns-in_ok-note_end g c = λ n is walked.
    walk-counted (follow-laws c.counts_follow_blocks.ensures.added c.counts_follow_blocks.ensures.taken
    c.counts_follow_blocks.ensures.few c.counts_follow_blocks.ensures.some)
    (g.V.Vstore.store c.args.store.now) (g.met.V.Vstore.is_store c.args.store.now)
    (is_needed (g.K.Keeping.kept c.args.keeping.now)) c.args.number
    (sym c.is_number_needed.ensures ∙ c.if-is_number_needed.true) _ _ _ _ c.count_one.ensures
    (c.in_ok-note_end.ensures ∙ ap (with_found c.args.ended.now.items c.args.number) c.end_of.ensures) n is
    walked

pub returns-else-is_number_needed : goal.returns-else-is_number_needed
returns-else-is_number_needed g c = λ n is walked.
    walk-past (follow-laws c.counts_follow_blocks.ensures.added c.counts_follow_blocks.ensures.taken
    c.counts_follow_blocks.ensures.few c.counts_follow_blocks.ensures.some)
    (g.V.Vstore.store c.args.store.now) (g.met.V.Vstore.is_store c.args.store.now)
    (is_needed (g.K.Keeping.kept c.args.keeping.now)) c.args.number
    (sym c.is_number_needed.ensures ∙ c.if-is_number_needed.false) _ _ n is walked
