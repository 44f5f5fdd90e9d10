-- Counts while the list of ends is gone over.
use Rattle.std.specs.Prelude.{◌≡◌, ◌≢◌, ◌⊎◌, ℕ, ◌<◌, ◌≤◌, ◌||◌, Bool, true, false, if◌then◌else◌, List, [], ◌∷◌, length, nat_eq, Option, None, Some}
use Rattle.nl_types.specs.Blocks.PartialMaps.{Partial}
use Rattle.nl_vstore.specs.Batches.{is_live}
use Rattle.nl_sufile.specs.BySegment.{one_less}
use Rattle.nl_vstore.specs.Stores.{Store, address_in, content_in, is_inside}
use Rattle.nl_reclaim.specs.declared.ends.Ended.{Ended}
use Rattle.nl_reclaim.specs.EndLists.{end_at}
use Rattle.nl_reclaim.specs.PrivateCounts.Places.{AreCountsIn}

abbrev pub is_number : ℕ → Option ℕ → Bool
is_number v None = false
is_number v (Some w) = nat_eq v w

-- whether the list has the number
abbrev pub is_listed : List Ended → ℕ → Bool
is_listed [] v = false
is_listed (e ∷ ends) v = is_number v e.number || is_listed ends v

-- the blocks of the numbers that have not ended, or are listed
abbrev pub counted_places : Store → List Ended → Partial ℕ
counted_places s ends v = if is_live (content_in s v) || is_listed ends v then address_in s v else None

-- The counts are those of the numbers that have not ended, or are listed. What is listed is in use, has
-- ended, and stands in one place of the list. This speaks of no kept checkpoint, so it holds at each step.
pub record AreListed (s : Store) (given : List ℕ) (ends : List Ended) : Type 0 where
  pub counts : AreCountsIn s (counted_places s ends) given
  pub in_use : (k v : ℕ) → (end_at ends k).number ≡ Some v → (b : ℕ) × (address_in s v ≡ Some b)
  pub ended : (k v : ℕ) → (end_at ends k).number ≡ Some v → is_live (content_in s v) ≡ false
  pub once : (k j v : ℕ) → (end_at ends k).number ≡ Some v → (end_at ends j).number ≡ Some v → k ≡ j

-- this stands at a place of the list
pub record ListsAt (ends : List Ended) (index : ℕ) (number : Option ℕ) : Type 0 where
  pub within : index < length ends
  pub there : (end_at ends index).number ≡ number

-- one less is counted where the page of a number stands
pub record IsTakenOff (s : Store) (v : ℕ) (old new : List ℕ) : Type 0 where
  pub segment : ℕ
  pub there : segment < length s.segments.each
  pub inside : is_inside s.segments segment (address_in s v) ≡ true
  pub counts : new ≡ one_less segment old

-- what is at a place was let go where it isn't needed, and all else stays
pub record HasLetGo (test : ℕ → Bool) (index : ℕ) (old new : List Ended) : Type 0 where
  pub size : length new ≡ length old
  pub others : (k : ℕ) → k ≢ index → end_at new k ≡ end_at old k
  pub end : (end_at new index).end ≡ (end_at old index).end
  pub left : (v : ℕ) → (end_at new index).number ≡ Some v → test v ≡ true
  pub needed : (v : ℕ) → (end_at old index).number ≡ Some v → test v ≡ true
      → (end_at new index).number ≡ Some v
  pub gone : (v : ℕ) → (end_at new index).number ≡ Some v → (end_at old index).number ≡ Some v

-- so at each place of a run
pub record HasLetGoAll (test : ℕ → Bool) (from to : ℕ) (old new : List Ended) : Type 0 where
  pub size : length new ≡ length old
  pub others : (k : ℕ) → (k < from) ⊎ (to ≤ k) → end_at new k ≡ end_at old k
  pub ends : (k : ℕ) → (end_at new k).end ≡ (end_at old k).end
  pub left : (k v : ℕ) → from ≤ k → k < to → (end_at new k).number ≡ Some v → test v ≡ true
  pub needed : (k v : ℕ) → (end_at old k).number ≡ Some v → test v ≡ true → (end_at new k).number ≡ Some v
  pub gone : (k v : ℕ) → (end_at new k).number ≡ Some v → (end_at old k).number ≡ Some v
