-- Counts and ends while all numbers are gone over.
use Rattle.std.specs.Prelude.{◌≡◌, ℕ, ◌<◌, ◌≤◌, nat_le, Bool, if◌then◌else◌, List, length, Option, None, Some}
use Rattle.nl_types.specs.Blocks.PartialMaps.{Partial}
use Rattle.nl_types.specs.Blocks.Entries.{Content, Entry}
use Rattle.nl_vstore.specs.Counts.{needed_places}
use Rattle.nl_vstore.specs.Stores.{Store, content_in}
use Rattle.nl_reclaim.specs.declared.ends.Ended.{Ended}
use Rattle.nl_reclaim.specs.Counted.{HasEndedNeeded}
use Rattle.nl_reclaim.specs.EndLists.{end_at}
use Rattle.nl_reclaim.specs.PrivateCounts.Places.{AreCountsIn}

-- where a number in use has ended
abbrev pub ending_of : Option Entry → Option ℕ
ending_of None = None
ending_of (Some e) = e.end

-- the blocks of the numbers up to n
abbrev pub up_to : ℕ → Partial ℕ → Partial ℕ
up_to n at v = if nat_le v n then at v else None

-- those of the numbers up to n that are needed and have ended, in any order: each with its end, once, and
-- nothing else
pub record AreFound (content : Content) (needed : Entry → Bool) (n : ℕ) (ended : List Ended) : Type 0 where
  pub full : (k : ℕ) → k < length ended → (v : ℕ) × ((end_at ended k).number ≡ Some v)
  pub low : (k v : ℕ) → (end_at ended k).number ≡ Some v → v ≤ n
  pub theirs : (k v : ℕ) → (end_at ended k).number ≡ Some v
      → HasEndedNeeded content needed v (end_at ended k).end
  pub all : (v end : ℕ) → v ≤ n → HasEndedNeeded content needed v end
      → (k : ℕ) × (k < length ended) × ((end_at ended k).number ≡ Some v) × ((end_at ended k).end ≡ end)
  pub once : (k j v : ℕ) → (end_at ended k).number ≡ Some v → (end_at ended j).number ≡ Some v → k ≡ j

-- the numbers up to n were counted, and their ends found
pub record HasWalked (s : Store) (needed : Entry → Bool) (n : ℕ) (counts : List ℕ)
    (ended : List Ended) : Type 0 where
  pub counted : AreCountsIn s (up_to n (needed_places s needed)) counts
  pub found : AreFound (content_in s) needed n ended
