-- What is told of kept checkpoints, and which of them may be removed. Rows ascend by their numbers.
use Rattle.std.specs.Prelude.{ℕ, ◌==◌, Bool, true, false, ◌&&◌, ◌||◌, not, if◌then◌else◌, nat_lt, nat_le, List, map, length, reverse, take, Option, None, Some, Result, Ok, Err}
use Rattle.std.specs.Option.{is_none, ok_or, option_map, option_map_or}
use Rattle.std.specs.List.{filter, filter_map, list_any}
use Rattle.std.specs.List as list
use Rattle.nl_types.specs.declared.error.VolError.{VolError}
use Rattle.nl_types.specs.declared.error.VolError.TheVariants as error
use Rattle.nl_types.specs.declared.event.Mode.{Mode}
use Rattle.nl_types.specs.declared.event.Mode.TheVariants.{Plain, Snapshot}
use Rattle.nl_types.specs.Plain.Calls.{and_then, ok_unless}
use Rattle.nl_types.specs.Plain.NumberLists.{is_one_of}
use Rattle.nl_types.specs.declared.row.ListOptions.{ListOptions}
use Rattle.nl_types.specs.declared.row.Range.{Range}
use Rattle.nl_types.specs.declared.row.Row.{Row}
use Rattle.nl_types.specs.declared.row.Stays.{Stays}

abbrev pub is_snapshot : Mode → Bool
is_snapshot Plain = false
is_snapshot Snapshot = true

abbrev pub number_of : Row → ℕ
number_of row = row.number

abbrev pub find_row : ℕ → List Row → Option Row
find_row n rows = list.find (λ row. row.number == n) rows

abbrev pub kept_row : ℕ → List Row → Result Row VolError
kept_row n rows = ok_or (find_row n rows) error.NoCheckpoint

-- ---- modes

abbrev pub row_with_mode : ℕ → Mode → Row → Row
row_with_mode n mode row = if row.number == n then record row { mode = mode } else row

-- the rows, with this mode at a number
abbrev pub with_mode : ℕ → Mode → List Row → List Row
with_mode n mode rows = map (row_with_mode n mode) rows

-- whether the checkpoint of a number can be given a mode: it has to be kept
abbrev pub mode_change : ℕ → List Row → Result (Unit {0}) VolError
mode_change n rows = and_then (kept_row n rows) (λ _. Ok tt)

-- ---- removals

-- the rows without those of some numbers
abbrev pub without : List ℕ → List Row → List Row
without gone rows = filter (λ row. not (is_one_of gone row.number)) rows

-- why a kept checkpoint can't be removed: a snapshot stays, and so does the latest
abbrev pub reason_to_stay : (latest : ℕ) → Row → Option VolError
reason_to_stay latest row =
    if is_snapshot row.mode then Some error.IsSnapshot
    else (if row.number == latest then Some error.Latest else None)

abbrev pub may_go : (latest : ℕ) → Row → Bool
may_go latest row = is_none (reason_to_stay latest row)

-- whether the checkpoint of a number can be removed: it has to be kept, and to have no reason to stay
abbrev pub removal : ℕ → (latest : ℕ) → List Row → Result (Unit {0}) VolError
removal n latest rows = and_then (kept_row n rows) (λ row. ok_unless (reason_to_stay latest row))

abbrev pub is_between : (first last : ℕ) → Row → Bool
is_between first last row = nat_le first row.number && nat_le row.number last

abbrev pub rows_between : (first last : ℕ) → List Row → List Row
rows_between first last rows = filter (is_between first last) rows

-- the numbers of those that may go
abbrev pub removable : (latest : ℕ) → List Row → List ℕ
removable latest rows = map number_of (filter (may_go latest) rows)

abbrev pub stay_of : (latest : ℕ) → Row → Option Stays
stay_of latest row =
    option_map (λ reason. record { number = row.number; reason = reason }) (reason_to_stay latest row)

-- each that stays, with the reason
abbrev pub stays_of : (latest : ℕ) → List Row → List Stays
stays_of latest rows = filter_map (stay_of latest) rows

abbrev pub judged_range : (latest : ℕ) → List Row → Range
judged_range latest found = record { removed = removable latest found; stayed = stays_of latest found }

abbrev pub is_empty_range : Range → Bool
is_empty_range range = length range.removed == 0 && length range.stayed == 0

abbrev pub is_no_range : (first last : ℕ) → Bool
is_no_range first last = first == 0 || nat_lt last first

-- what becomes of a range: it has to be one, and to have a kept checkpoint
abbrev pub range_removal : (first last latest : ℕ) → List Row → Result Range VolError
range_removal first last latest rows =
    if is_no_range first last then Err error.BadRange else (
    if not (list_any (is_between first last) rows) then Err error.NoCheckpoint else (
    Ok (judged_range latest (rows_between first last rows))))

-- ---- listings

-- what a listing goes over: ascending, or descending
abbrev pub in_direction : (reversed : Bool) → List Row → List Row
in_direction reversed rows = if reversed then reverse rows else rows

abbrev pub is_from : ListOptions → Row → Bool
is_from options row =
    option_map_or
    (λ n. if options.reverse then nat_le row.number n else nat_le n row.number) options.from true

-- a plain minor checkpoint is shown only where minor ones are asked for
abbrev pub is_wanted : ListOptions → Row → Bool
is_wanted options row =
    (not options.snapshots_only || is_snapshot row.mode)
    && (options.with_minor || (not row.minor || is_snapshot row.mode))

abbrev pub is_shown : ListOptions → Row → Bool
is_shown options row = is_from options row && is_wanted options row

-- the first ones, where it is said how many
abbrev pub at_most : Option ℕ → List Row → List Row
at_most count rows = option_map_or (λ n. take n rows) count rows

abbrev pub listing : ListOptions → List Row → List Row
listing options rows = at_most options.count (filter (is_shown options) (in_direction options.reverse rows))
