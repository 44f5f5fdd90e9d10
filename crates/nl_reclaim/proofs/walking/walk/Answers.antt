use Rattle.nl_types.specs.Blocks.Entries.{is_needed}
use Rattle.nl_reclaim.proofs.SegmentsOf.{follow-laws, have-room}
use Rattle.nl_reclaim.proofs.WalkedCounts.{none-walked}
use Rattle.nl_reclaim.proofs.walking.walk.Goals as goal

pub loop-below-init : goal.loop-below-init
loop-below-init g c = rw c.new-ended.ensures.items
    (none-walked (g.V.Vstore.store c.args.store.now) (is_needed (g.K.Keeping.kept c.args.keeping.now))
    (g.met.V.Vstore.is_store c.args.store.now) c.args.counts.now c.requires)

pub walk_one-requires : goal.walk_one-requires
walk_one-requires g c =
    have-room (follow-laws c.counts_follow_blocks.ensures.added c.counts_follow_blocks.ensures.taken
    c.counts_follow_blocks.ensures.few c.counts_follow_blocks.ensures.some)
    (g.V.Vstore.store c.args.store.now)
    (g.met.V.Vstore.is_store c.args.store.now) _ _ c.loop-below.invariant.counted
