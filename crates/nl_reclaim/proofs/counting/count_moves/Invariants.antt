use Rattle.std.proofs.Common.{ℕ, take}
use Rattle.nl_types.specs.Blocks.PartialMaps.{Partial}
use Rattle.nl_vstore.specs.Stores.{address_in}
use Rattle.nl_reclaim.specs.PrivateCounts.Adding.{LeaveSegment, mixed}
use Rattle.nl_reclaim.specs.PrivateCounts.Places.{AreCountsIn}
use Rattle.nl_reclaim.proofs.counting.count_moves.Given as goal

abbrev pub invariant-loop-number : goal.invariant-loop-number
invariant-loop-number g l =
    let store = g.V.Vstore.store l.store in
    (old : Partial ℕ) → LeaveSegment store l.segment l.numbers old → AreCountsIn store old l.initial.counts
    → AreCountsIn store (mixed (take l.number-index l.numbers) (address_in store) old) l.counts
