-- Counts by segment, of numbers that have blocks.
use Rattle.std.specs.Prelude.{◌≡◌, ◌≢◌, ℕ, zero, suc, ◌+◌, ◌-◌, ◌*◌, ◌<◌, ◌≤◌, ◌&&◌, nat_le, nat_lt, Bool, true, false, if◌then◌else◌, List, ◌++◌, length, replicate, slice_index_or, slice_set, Option, None, Some}
use Rattle.nl_types.specs.Blocks.PartialMaps.{Partial}

-- how many of the numbers 1 to n pass a test
abbrev pub count_to : (ℕ → Bool) → ℕ → ℕ
count_to test zero = 0
count_to test (suc n) = (if test (suc n) then 1 else 0) + count_to test n

-- 1 where the test is passed
abbrev pub bit : Bool → ℕ
bit b = if b then 1 else 0

-- where the answer for one number changes alone, the count changes by that
abbrev pub CountsChangeByOne : Type 0
CountsChangeByOne = (old new : ℕ → Bool) (n v : ℕ) → 1 ≤ v → v ≤ n
    → ((w : ℕ) → w ≢ v → new w ≡ old w)
    → count_to new n + bit (old v) ≡ count_to old n + bit (new v)

-- whether the block, if there is one, lies in a segment of so many blocks
abbrev pub lies_in : (blocks segment : ℕ) → Option ℕ → Bool
lies_in blocks segment None = false
lies_in blocks segment (Some b) = nat_le (segment * blocks) b && nat_lt b (segment * blocks + blocks)

-- how many of the numbers 1 to n have their block in a segment
abbrev pub count_in : (blocks n : ℕ) → Partial ℕ → (segment : ℕ) → ℕ
count_in blocks n at segment = count_to (λ v. lies_in blocks segment (at v)) n

-- the counts are those of the numbers 1 to n
pub record AreCounts (blocks n : ℕ) (at : Partial ℕ) (counts : List ℕ) : Type 0 where
  pub each : (segment : ℕ) → segment < length counts
      → slice_index_or counts segment 0 ≡ count_in blocks n at segment

abbrev pub one_more : ℕ → List ℕ → List ℕ
one_more segment counts = slice_set counts segment (slice_index_or counts segment 0 + 1)

abbrev pub one_less : ℕ → List ℕ → List ℕ
one_less segment counts = slice_set counts segment (slice_index_or counts segment 0 - 1)

-- the counts, with zeros behind them up to so many
abbrev pub grown_counts : ℕ → List ℕ → List ℕ
grown_counts segments counts = counts ++ replicate (segments - length counts) 0

-- a number has a block that it had not, and no other changes
pub record HasBlock (v b : ℕ) (old new : Partial ℕ) : Type 0 where
  pub before : old v ≡ None
  pub now : new v ≡ Some b
  pub others : (w : ℕ) → w ≢ v → new w ≡ old w

-- the count of its segment is one more
abbrev pub AddedIsCounted : Type 0
AddedIsCounted = (blocks n v b segment : ℕ) (old new : Partial ℕ) (counts : List ℕ) → 1 ≤ v → v ≤ n
    → HasBlock v b old new → lies_in blocks segment (Some b) ≡ true → segment < length counts
    → AreCounts blocks n old counts → AreCounts blocks n new (one_more segment counts)

-- where it loses the block, the count is one less
abbrev pub TakenIsCounted : Type 0
TakenIsCounted = (blocks n v b segment : ℕ) (old new : Partial ℕ) (counts : List ℕ) → 1 ≤ v → v ≤ n
    → HasBlock v b new old → lies_in blocks segment (Some b) ≡ true → segment < length counts
    → AreCounts blocks n old counts → AreCounts blocks n new (one_less segment counts)

-- no count is greater than the numbers
abbrev pub CountsAreFew : Type 0
CountsAreFew = (blocks n segment : ℕ) (at : Partial ℕ) (counts : List ℕ) → segment < length counts
    → AreCounts blocks n at counts → slice_index_or counts segment 0 ≤ n

-- where a number has a block in the segment, there is something to take
abbrev pub TakenWasCounted : Type 0
TakenWasCounted = (blocks n v b segment : ℕ) (at : Partial ℕ) (counts : List ℕ) → 1 ≤ v → v ≤ n
    → at v ≡ Some b → lies_in blocks segment (Some b) ≡ true → segment < length counts
    → AreCounts blocks n at counts → 0 < slice_index_or counts segment 0

-- where no later number has a block, and none has one in a later segment, more of both change no count
abbrev pub GrownAreCounted : Type 0
GrownAreCounted = (blocks n more segments : ℕ) (at : Partial ℕ) (counts : List ℕ)
    → ((v : ℕ) → n < v → at v ≡ None)
    → ((v segment : ℕ) → length counts ≤ segment → lies_in blocks segment (at v) ≡ false)
    → AreCounts blocks n at counts → AreCounts blocks (n + more) at (grown_counts segments counts)
