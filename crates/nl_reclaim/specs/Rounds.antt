-- Rounds of cleaning: what they leave in use.
use Rattle.std.specs.Prelude.{◌≡◌, ◌⊎◌, ℕ, zero, suc, Bool, true, false, List, [], ◌∷◌, Some}
use Rattle.nl_types.specs.declared.segment.SegmentState.{SegmentState}
use Rattle.nl_types.specs.declared.segment.SegmentState.TheVariants.{Clean, Dirty, Active, Error}
use Rattle.nl_types.specs.Plain.NumberLists.{is_one_of}
use Rattle.nl_types.specs.Blocks.Entries.{is_needed}
use Rattle.nl_vstore.specs.Stores.{IsStore, IsReclaimed, address_in, content_in, is_inside}
use Rattle.nl_vstore.specs.Located.{needs}
use Rattle.nl_reclaim.specs.Moves.{KeptStore, KeepsNeeds, HasMovedPages, info_now}

abbrev pub IsNeeded : KeptStore → ℕ → Type 0
IsNeeded s v = needs (is_needed s.kept) (content_in s.store) v ≡ true

-- no round takes such a segment
abbrev pub is_left_out : SegmentState → Bool
is_left_out Clean = false
is_left_out Dirty = false
is_left_out Active = true
is_left_out Error = true

-- the block lies in a segment that was active or in error
pub record IsLeftOut (s : KeptStore) (b : ℕ) : Type 0 where
  pub segment : ℕ
  pub inside : is_inside s.store.segments segment (Some b) ≡ true
  pub left_out : is_left_out (info_now s segment).state ≡ true

-- a segment was emptied
pub record IsEmptied (segment count : ℕ) (old new : KeptStore) : Type 0 where
  pub needs : KeepsNeeds old new
  pub reclaimed : IsReclaimed segment count old.store new.store
  pub store : IsStore new.store

-- one event of a round: a move out of the segment whose turn it is, or its retirement, behind which the next
-- one's comes
abbrev pub IsRoundEvent : List ℕ → KeptStore → List ℕ → KeptStore → Type 0
IsRoundEvent [] old left new = ⊥
IsRoundEvent (segment ∷ rest) old left new =
    ((left ≡ segment ∷ rest) × (checkpoint : ℕ) × (stamp : ℕ) × (m : ℕ)
    × HasMovedPages segment checkpoint stamp m old new)
    ⊎ ((left ≡ rest) × (count : ℕ) × IsEmptied segment count old new)

-- n events, from the segments that are left to those that are left then
abbrev pub AreRoundEvents : ℕ → List ℕ → KeptStore → List ℕ → KeptStore → Type 0
AreRoundEvents zero before old left new = (left ≡ before) × (new ≡ old)
AreRoundEvents (suc n) before old left new =
    (between : List ℕ) × (mid : KeptStore) × IsRoundEvent before old between mid
    × AreRoundEvents n between mid left new

-- Checkpoints expire, and then a round goes over every segment that was dirty, to its end. Then each number
-- in use is needed, or its page stands in a segment that was active or in error.
abbrev pub RoundsLeaveNothingDead : Type 0
RoundsLeaveNothingDead =
    (n : ℕ) (start old new : KeptStore) (victims : List ℕ) → IsStore start.store
    → ((i : ℕ) → (info_now start i).state ≡ Dirty → is_one_of victims i ≡ true)
    → old.store ≡ start.store → AreRoundEvents n victims old [] new
    → (v b : ℕ) → address_in new.store v ≡ Some b → IsNeeded new v ⊎ IsLeftOut start b
