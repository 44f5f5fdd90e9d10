-- Which checkpoints are forgotten where ranges are said. Rows ascend by their numbers.
use Rattle.std.specs.Prelude.{ℕ, ◌&&◌, ◌||◌, ◌==◌, Bool, false, not, if◌then◌else◌, List, [], ◌∷◌, Option, None, Some}
use Rattle.nl_types.specs.declared.row.Row.{Row}
use Rattle.nl_words.specs.declared.forgetting.Stay.{Stay}
use Rattle.nl_words.specs.declared.ranges.Numbers.{Numbers}
use Rattle.nl_words.specs.Own.{is_plain_minor, latest_number, latest_own}
use Rattle.nl_words.specs.Ranges.{is_named}

-- ---- what stays

abbrev pub stay_of : List Row → Stay
stay_of rows = record { own = latest_own rows; latest = latest_number rows }

abbrev pub is_it : ℕ → Option ℕ → Bool
is_it n None = false
is_it n (Some m) = m == n

-- it is the latest own one, or the latest of all
abbrev pub stays : Stay → ℕ → Bool
stays stay n = is_it n stay.own || is_it n stay.latest

-- ---- what goes

-- Who is forgotten takes the plain ones along of the minor rows right behind it: these are its run.

-- it is named, it doesn't stay, and it isn't a plain minor one of a run that goes
abbrev pub goes : List Numbers → Stay → (in_run : Bool) → Row → Bool
goes ranges stay in_run row =
    is_named ranges row.number && (not (stays stay row.number) && not (in_run && is_plain_minor row))

-- whether the next row, if it is minor, is of a run that goes
abbrev pub runs_on : Bool → (in_run : Bool) → Row → Bool
runs_on going in_run row = going || (in_run && row.minor)

abbrev pub going_from : List Numbers → Stay → (in_run : Bool) → List Row → List ℕ
going_from ranges stay in_run [] = []
going_from ranges stay in_run (row ∷ rows) =
    let now = goes ranges stay in_run row in
    let rest = going_from ranges stay (runs_on now in_run row) rows in
    if now then row.number ∷ rest else rest

abbrev pub going : List Numbers → List Row → List ℕ
going ranges rows = going_from ranges (stay_of rows) false rows
