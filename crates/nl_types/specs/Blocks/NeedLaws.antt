-- What checkpoints and their removal do to needs.
use Rattle.std.specs.Prelude.{◌≡◌, ◌⊎◌, ℕ, ◌+◌, ◌<◌, ◌≤◌, true, false, List, [], ◌∷◌, ◌++◌, None, Some}
use Rattle.nl_types.specs.Plain.NumberLists.{is_one_of}
use Rattle.nl_types.specs.Blocks.Entries.{Birth, Content, Entry, GivenOnce, birth_of, is_needed, written}
use Rattle.nl_types.specs.Blocks.Lifetimes.{IsBounded}

-- A checkpoint leaves every number in use as needed as it was: what ends is needed by the one before it,
-- which is kept.
abbrev pub CheckpointsKeepNeeds : Type 0
CheckpointsKeepNeeds =
    (births : List Birth) (ends kept : List ℕ) (latest v : ℕ) (content : Content) (e f : Entry)
    → GivenOnce births → IsBounded content latest → is_one_of kept latest ≡ true
    → ((w : ℕ) (g : Entry) → is_one_of ends w ≡ true → content w ≡ Some g → g.end ≡ None)
    → birth_of births v ≡ None
    → content v ≡ Some e → written births ends (latest + 1) content v ≡ Some f
    → is_needed (kept ++ (latest + 1) ∷ []) f ≡ is_needed kept e

-- Checkpoints from `first` on and below `next`, which stays, are gone: `kept` were kept, and `stay` are.
pub record AreGone (first next : ℕ) (kept stay : List ℕ) : Type 0 where
  pub next_stays : is_one_of stay next ≡ true
  pub gone : (c : ℕ) → is_one_of kept c ≡ true → (is_one_of stay c ≡ true) ⊎ ((first ≤ c) × (c < next))
  pub fewer : (c : ℕ) → is_one_of stay c ≡ true → is_one_of kept c ≡ true

-- what stays needs nothing that was not needed
abbrev pub RemovalsNeedNoMore : Type 0
RemovalsNeedNoMore =
    (first next : ℕ) (kept stay : List ℕ) (e : Entry) → AreGone first next kept stay
    → is_needed stay e ≡ true → is_needed kept e ≡ true

-- What was needed and isn't any more has ended in one run: behind the first removed checkpoint, and not
-- behind the next one that stays.
abbrev pub LostNumbersEndInTheRun : Type 0
LostNumbersEndInTheRun =
    (first next : ℕ) (kept stay : List ℕ) (e : Entry) → AreGone first next kept stay
    → is_needed kept e ≡ true → is_needed stay e ≡ false
    → (end : ℕ) × (e.end ≡ Some end) × (first < end) × (end ≤ next)
