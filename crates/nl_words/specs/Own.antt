-- Which checkpoints are a user's own, and which is the latest of these. Rows ascend by their numbers.
use Rattle.std.specs.Prelude.{ℕ, ◌&&◌, Bool, not, if◌then◌else◌, List, [], ◌∷◌, Option, None, Some}
use Rattle.nl_types.specs.declared.row.Row.{Row}
use Rattle.nl_types.specs.Plain.Rows.{is_snapshot}

-- the volume made it by itself, and nobody made a snapshot of it
abbrev pub is_plain_minor : Row → Bool
is_plain_minor row = not (is_snapshot row.mode) && row.minor

abbrev pub own_or : Option ℕ → Row → Option ℕ
own_or last row = if is_plain_minor row then last else Some row.number

-- the last one that isn't plain and minor, or else what was the last before
abbrev pub last_own : Option ℕ → List Row → Option ℕ
last_own last [] = last
last_own last (row ∷ rows) = last_own (own_or last row) rows

-- the last one, or else what was the last before
abbrev pub last_number : Option ℕ → List Row → Option ℕ
last_number last [] = last
last_number last (row ∷ rows) = last_number (Some row.number) rows

-- the latest of all
abbrev pub latest_number : List Row → Option ℕ
latest_number rows = last_number None rows

abbrev pub or_latest : List Row → Option ℕ → Option ℕ
or_latest rows None = latest_number rows
or_latest rows (Some n) = Some n

-- the latest that isn't plain and minor; where all are, the latest of all
abbrev pub latest_own : List Row → Option ℕ
latest_own rows = or_latest rows (last_own None rows)
