-- Ranges of numbers, and what they name.
use Rattle.std.specs.Prelude.{ℕ, ◌&&◌, ◌||◌, nat_le, Bool, false, if◌then◌else◌, List, [], ◌∷◌, Option, None, Some}
use Rattle.nl_types.specs.declared.row.Row.{Row}
use Rattle.nl_words.specs.declared.ranges.Numbers.{Numbers}
use Rattle.nl_words.specs.Own.{latest_number, latest_own}

abbrev pub has : Numbers → ℕ → Bool
has range n = nat_le range.first n && nat_le n range.last

-- one of the ranges has it
abbrev pub is_named : List Numbers → ℕ → Bool
is_named [] n = false
is_named (range ∷ ranges) n = has range n || is_named ranges n

-- the range has one of the rows
abbrev pub names_any : Numbers → List Row → Bool
names_any range [] = false
names_any range (row ∷ rows) = has range row.number || names_any range rows

abbrev pub if_named : Numbers → Option ℕ → Option ℕ
if_named range None = None
if_named range (Some n) = if has range n then Some n else None

abbrev pub or_else : Option ℕ → Option ℕ → Option ℕ
or_else None other = other
or_else (Some n) other = Some n

-- what the range names and what stays: the latest own one, or the latest of all
abbrev pub staying : Numbers → List Row → Option ℕ
staying range rows = or_else (if_named range (latest_own rows)) (if_named range (latest_number rows))
