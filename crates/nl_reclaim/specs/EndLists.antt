-- Lists of numbers that have ended, in the order of their ends.
use Rattle.std.specs.Prelude.{ℕ, ◌<◌, ◌≤◌, Bool, List, [], ◌∷◌, ◌++◌, length, map, is_some, slice_index_or, slice_set, Option, None, Some}
use Rattle.std.specs.List.{filter}
use Rattle.nl_reclaim.specs.declared.ends.Ended.{Ended}

-- a list, and for how many more there is room
pub record RoomyEnds : Type 0 where
  pub ended : List Ended
  pub room : ℕ

abbrev pub no_end : Ended
no_end = record { number = None; end = 0 }

abbrev pub end_of : Ended → ℕ
end_of e = e.end

abbrev pub end_at : List Ended → ℕ → Ended
end_at ends k = slice_index_or ends k no_end

-- ---- changes

-- the list without the number at a place, whose end stays
abbrev pub blanked : ℕ → List Ended → List Ended
blanked k ends = slice_set ends k (record (end_at ends k) { number = None })

abbrev pub has_number : Ended → Bool
has_number e = is_some e.number

-- what has a number, in its order
abbrev pub swept : List Ended → List Ended
swept ends = filter has_number ends

abbrev pub with_end : ℕ → ℕ → Ended
with_end c v = record { number = Some v; end = c }

-- a number behind the others, where it has ended
abbrev pub with_found : List Ended → ℕ → Option ℕ → List Ended
with_found ends v None = ends
with_found ends v (Some c) = ends ++ with_end c v ∷ []

-- the numbers, each with this end
abbrev pub noted_ends : ℕ → List ℕ → List Ended
noted_ends c numbers = map (with_end c) numbers

-- ---- runs

-- the places from one on and below another are those of the ends behind `first` and not behind `next`, or
-- more
pub record IsRun (first next from to : ℕ) (ends : List Ended) : Type 0 where
  pub order : from ≤ to
  pub within : to ≤ length ends
  pub inside : (k : ℕ) → k < length ends → first < (end_at ends k).end → (end_at ends k).end ≤ next
      → (from ≤ k) × (k < to)
  pub behind : (k : ℕ) → from ≤ k → k < to → (first < (end_at ends k).end) × ((end_at ends k).end ≤ next)
