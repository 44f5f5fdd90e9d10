-- Counts by segment over a store, one number at a time.
use Rattle.std.proofs.Common.{◌≡◌, ℕ, ◌+◌, ◌-◌, ◌<◌, ◌≤◌, true, List, length, get_or, Some, ◌∙◌, arith}
use Rattle.std.proofs.lemmas.List.{length-set}
use Rattle.nl_types.specs.Blocks.PartialMaps.{Partial}
use Rattle.nl_sufile.specs.BySegment.{AddedIsCounted, CountsAreFew, HasBlock, TakenIsCounted, TakenWasCounted, one_less, one_more}
use Rattle.nl_vstore.specs.Stores.{IsStore, Store, capacity, is_inside}
use Rattle.nl_reclaim.specs.PrivateCounts.Places.{AreCountsIn, HaveRoom}

-- what counts by segment do where a number gets a block, or loses it
pub record Follow : Type 0 where
  pub added : AddedIsCounted
  pub taken : TakenIsCounted
  pub few : CountsAreFew
  pub some : TakenWasCounted

pub follow-laws : AddedIsCounted → TakenIsCounted → CountsAreFew → TakenWasCounted → Follow
follow-laws added taken few some = record { added = added; taken = taken; few = few; some = some }

module _ (follow : Follow) (s : Store) (store : IsStore s) where
  -- a store has so few numbers that each count can be one more
  pub have-room : (at : Partial ℕ) (counts : List ℕ) → AreCountsIn s at counts → HaveRoom s counts
  have-room at counts are = record {
    size = are.size;
    each = λ segment low.
        let few = follow.few s.segments.blocks (capacity s) segment at counts low are.are in
        let most = store.limits.geometry.most in
        omega (arith, few, most);
  }

  -- a number in the segment was counted
  pub some-counted : (v b segment : ℕ) (at : Partial ℕ) (counts : List ℕ) → (1 ≤ v) × (v ≤ capacity s)
      → at v ≡ Some b
      → is_inside s.segments segment (Some b) ≡ true → segment < length s.segments.each
      → AreCountsIn s at counts
      → 0 < get_or counts segment 0
  some-counted v b segment at counts range is inside there are =
      follow.some s.segments.blocks (capacity s) v b segment at counts range.0 range.1 is inside
      (omega (arith, are.size, there)) are.are

  pub one-added : (v b segment : ℕ) (old new : Partial ℕ) (counts : List ℕ) → (1 ≤ v) × (v ≤ capacity s)
      → HasBlock v b old new
      → is_inside s.segments segment (Some b) ≡ true → segment < length s.segments.each
      → AreCountsIn s old counts
      → AreCountsIn s new (one_more segment counts)
  one-added v b segment old new counts range has inside there are = record {
    size = length-set counts segment (get_or counts segment 0 + 1) ∙ are.size;
    are =
        follow.added s.segments.blocks (capacity s) v b segment old new counts range.0 range.1 has inside
        (omega (arith, are.size, there)) are.are;
  }

  pub one-taken : (v b segment : ℕ) (old new : Partial ℕ) (counts : List ℕ) → (1 ≤ v) × (v ≤ capacity s)
      → HasBlock v b new old
      → is_inside s.segments segment (Some b) ≡ true → segment < length s.segments.each
      → AreCountsIn s old counts
      → AreCountsIn s new (one_less segment counts)
  one-taken v b segment old new counts range has inside there are = record {
    size = length-set counts segment (get_or counts segment 0 - 1) ∙ are.size;
    are =
        follow.taken s.segments.blocks (capacity s) v b segment old new counts range.0 range.1 has inside
        (omega (arith, are.size, there)) are.are;
  }
