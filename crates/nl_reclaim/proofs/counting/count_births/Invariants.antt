use Rattle.std.proofs.Common.{ℕ, take}
use Rattle.std.specs.Prelude.{map}
use Rattle.nl_types.specs.Blocks.PartialMaps.{Partial}
use Rattle.nl_vstore.specs.Batches.{number_of_payload}
use Rattle.nl_vstore.specs.Stores.{address_in}
use Rattle.nl_reclaim.specs.PrivateCounts.Adding.{GetBlocks, mixed}
use Rattle.nl_reclaim.specs.PrivateCounts.Places.{AreCountsIn}
use Rattle.nl_reclaim.proofs.counting.count_births.Given as goal

abbrev pub invariant-loop-birth : goal.invariant-loop-birth
invariant-loop-birth g l =
    let store = g.V.Vstore.store l.store in
    let numbers = map number_of_payload l.births in
    (old : Partial ℕ) → GetBlocks store numbers old → AreCountsIn store old l.initial.counts
    → AreCountsIn store (mixed (take l.birth-index numbers) (address_in store) old) l.counts
