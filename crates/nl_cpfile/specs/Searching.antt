-- Where the checkpoint of a number stands in a list, and which comes next above a number.
use Rattle.std.specs.Prelude.{◌≡◌, ℕ, ◌<◌, ◌≤◌, true, List, length, map, Option, None}
use Rattle.std.specs.List.{HoldsAt}
use Rattle.std.specs.Option.{MatchOption}
use Rattle.std.specs.FinMap.{find}
use Rattle.std.specs.Ordering.{nat_cmp}
use Rattle.nl_types.specs.Plain.NumberLists.{is_one_of}
use Rattle.nl_cpfile.specs.declared.checkpoint.Checkpoint.{Checkpoint}
use Rattle.nl_cpfile.specs.Tables.{by_number}

pub record HasNumberAt (kept : List Checkpoint) (n i : ℕ) : Type 0 where
  pub inside : i < length kept
  pub number : HoldsAt (λ (c : Checkpoint). c.number ≡ n) kept i

-- the place is that of the number, or no checkpoint has it
abbrev pub IsPlaceOf : List Checkpoint → ℕ → Option ℕ → Type 0
IsPlaceOf kept n place = MatchOption place (find nat_cmp n (map by_number kept) ≡ None) (HasNumberAt kept n)

-- the number is one of them, above n, and none of them lies between
pub record IsLeastAbove (n : ℕ) (numbers : List ℕ) (next : ℕ) : Type 0 where
  pub among : is_one_of numbers next ≡ true
  pub above : n < next
  pub least : (m : ℕ) → is_one_of numbers m ≡ true → n < m → next ≤ m

abbrev pub NoneAbove : ℕ → List ℕ → Type 0
NoneAbove n numbers = (m : ℕ) → is_one_of numbers m ≡ true → m ≤ n
