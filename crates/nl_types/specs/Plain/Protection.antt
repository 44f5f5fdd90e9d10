-- Which kept checkpoints a protection period protects, which of them expire, and which stay.
use Rattle.std.specs.Prelude.{ℕ, ◌+◌, min, Bool, ◌||◌, nat_lt, nat_le, List, [], ◌∷◌, map, unwrap_or, Option, None, Some}
use Rattle.std.specs.Option.{option_map_or}
use Rattle.std.specs.List.{filter}
use Rattle.nl_types.specs.declared.row.Row.{Row}
use Rattle.nl_types.specs.Plain.Rows.{is_snapshot, number_of, removable}

-- ---- protection

-- the checkpoint was made less than the period ago, or after the moment
abbrev pub is_protected : (now period : ℕ) → Row → Bool
is_protected now period row = nat_lt now (row.stamp + period)

abbrev pub protected : (now period : ℕ) → List Row → List Row
protected now period rows = filter (is_protected now period) rows

abbrev pub least : List ℕ → Option ℕ
least [] = None
least (n ∷ ns) = Some (option_map_or (min n) (least ns) n)

-- the least number of a protected checkpoint, or else the latest number
abbrev pub boundary : (now period latest : ℕ) → List Row → ℕ
boundary now period latest rows = unwrap_or (least (map number_of (protected now period rows))) latest

-- ---- expiry

abbrev pub is_below : ℕ → Row → Bool
is_below boundary row = nat_lt row.number boundary

-- the numbers of the checkpoints below a boundary that may go: neither snapshots nor the latest one
abbrev pub expired : (boundary latest : ℕ) → List Row → List ℕ
expired boundary latest rows = removable latest (filter (is_below boundary) rows)

-- ---- which stay

-- the checkpoint stays where the plain ones below a number are taken as removed
abbrev pub is_staying : (below : ℕ) → Row → Bool
is_staying below row = is_snapshot row.mode || nat_le below row.number

abbrev pub staying_numbers : (below : ℕ) → List Row → List ℕ
staying_numbers below rows = map number_of (filter (is_staying below) rows)
