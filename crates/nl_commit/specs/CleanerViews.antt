-- What the cleaner is told of a pen.
use Rattle.std.specs.Prelude.{ℕ, ◌==◌, if◌then◌else◌, List, Result, slice_get}
use Rattle.std.specs.Option.{ok_or}
use Rattle.nl_types.specs.Plain.Limits.{log_limit}
use Rattle.nl_types.specs.declared.error.VolError.{VolError}
use Rattle.nl_types.specs.declared.error.VolError.TheVariants.{BadRange}
use Rattle.nl_types.specs.declared.event.Event.{Event}
use Rattle.nl_types.specs.declared.event.Event.TheVariants.{Move, Retire}
use Rattle.nl_types.specs.Blocks.Entries.{is_needed}
use Rattle.nl_types.specs.Plain.Protection.{staying_numbers}
use Rattle.nl_cpfile.specs.Tables.{rows}
use Rattle.nl_vstore.specs.Counts.{needed_counts}
use Rattle.nl_vstore.specs.Located.{needed_count}
use Rattle.nl_commit.specs.CleaningEvents.{needed_by}
use Rattle.nl_commit.specs.Layout.{Layout}

-- the checkpoints that stay once the plain ones below one are gone
abbrev pub staying_in : Layout → (below : ℕ) → List ℕ
staying_in l below = staying_numbers below (rows l.lists.table)

-- how many numbers, whose pages stand in the segment, are needed then
abbrev pub needed_after : Layout → (below segment : ℕ) → ℕ
needed_after l below segment = needed_count l.store (is_needed (staying_in l below)) segment

-- the counts of needed blocks by segment are these then
abbrev pub counts_after : Layout → (below : ℕ) → List ℕ
counts_after l below = needed_counts l.store (is_needed (staying_in l below))

-- how many needed blocks a segment has, where there is one
abbrev pub needed_told : Layout → (segment : ℕ) → Result ℕ VolError
needed_told l segment = ok_or (slice_get (needed_counts l.store (needed_by l.lists)) segment) BadRange

-- What cleans a segment next: its retirement where no number is needed whose page stands there, and else a
-- move. Each moves as many pages as a log takes.
abbrev pub cleaning_event : Layout → (segment now : ℕ) → Event
cleaning_event l segment now =
    if needed_count l.store (needed_by l.lists) segment == 0 then Retire segment
    else Move segment log_limit now
