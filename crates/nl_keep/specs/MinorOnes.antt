-- Checkpoints that the volume made by itself, and what goes with them.
use Rattle.std.specs.Prelude.{◌≡◌, ◌-◌, ◌&&◌, Bool, not, List, length, map, take, ℕ}
use Rattle.std.specs.List.{filter}
use Rattle.nl_types.specs.declared.row.Row.{Row}
use Rattle.nl_types.specs.Plain.Rows.{is_snapshot, number_of}
use Rattle.nl_types.specs.Plain.Worlds.{World, Copy, rows, take_out}

-- the volume made it by itself, and nobody made a snapshot of it
abbrev pub is_plain_minor : Row → Bool
is_plain_minor row = not (is_snapshot row.mode) && row.minor

abbrev pub is_plain_minor_copy : Copy → Bool
is_plain_minor_copy copy = not (is_snapshot copy.mode) && copy.minor

-- the numbers of such ones
abbrev pub minor_ones : List Row → List ℕ
minor_ones rows = map number_of (filter is_plain_minor rows)

-- all but the last one
abbrev pub earlier_rows : List Row → List Row
earlier_rows rows = take (length rows - 1) rows

-- the copies of these numbers are taken out
abbrev pub TakesOutAll : List ℕ → World → World → Type 0
TakesOutAll gone old new = new ≡ take_out gone old

-- the plain minor ones are, but for the latest checkpoint of all
abbrev pub RemovesMinor : World → World → Type 0
RemovesMinor old new = TakesOutAll (minor_ones (earlier_rows (rows old))) old new
