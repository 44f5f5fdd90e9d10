use Rattle.nl_types.specs.Blocks.Entries.{is_needed}
use Rattle.nl_reclaim.specs.PrivateCounts.Walked.{HasWalked}
use Rattle.nl_reclaim.proofs.walking.walk.Given as goal

abbrev pub invariant-loop-below : goal.invariant-loop-below
invariant-loop-below g l =
    HasWalked (g.V.Vstore.store l.store)
    (is_needed (g.K.Keeping.kept l.keeping)) l.below l.counts l.ended.items
