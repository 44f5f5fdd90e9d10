-- What calls on checkpoints tell.
use Rattle.std.specs.Prelude.{◌≡◌, ℕ, ◌==◌, ◌%◌, MatchBool, if◌then◌else◌, nat_lt, nat_le, false, List, [], map, length, Option, None, Some, Result, Ok, Err}
use Rattle.nl_types.specs.declared.event.Event.TheVariants.{Checkpoint}
use Rattle.nl_types.specs.declared.event.Mode.{Mode}
use Rattle.nl_types.specs.declared.event.Mode.TheVariants.{Plain, Snapshot}
use Rattle.nl_types.specs.declared.reply.Answer.{Answer}
use Rattle.nl_types.specs.declared.reply.Answer.TheVariants as answer
use Rattle.nl_types.specs.declared.row.ListOptions.{ListOptions}
use Rattle.nl_types.specs.declared.row.Row.{Row}
use Rattle.nl_types.specs.Plain.Worlds.{Reply}
use Rattle.nl_commit.specs.Layout.{Does, Layout, unshared}
use Rattle.nl_c.specs.Calls.{IsClosed, with_pen}
use Rattle.nl_c.specs.Copying.{filled, fitting, row_told}
use Rattle.nl_c.specs.Statuses.{done, told_of, wrong_argument}
use Rattle.nl_c.specs.declared.checkpoints.RangeTold.{RangeTold}
use Rattle.nl_c.specs.declared.copying.CheckpointRow.{CheckpointRow}
use Rattle.nl_c.specs.declared.held.Held.{Held}

-- ---- flags

-- 0 is plain, 1 a snapshot, and nothing else is a mode
abbrev pub mode_of : ℕ → Option Mode
mode_of flags = if flags == 0 then Some Plain else (if flags == 1 then Some Snapshot else None)

-- flag 1 shows snapshots alone, flag 2 minor checkpoints too; there are no others
abbrev pub options_of : (flags from count : ℕ) → Option ListOptions
options_of flags from count =
    if nat_lt 3 flags then None
    else Some (record {
      reverse = false;
      snapshots_only = flags % 2 == 1;
      with_minor = nat_le 2 flags;
      from = Some from;
      count = Some count;
    })

-- the flags are none, and nothing is done
abbrev pub IsWrong : Option Held → ℕ → Option Held → Type 0
IsWrong was status after = (status ≡ wrong_argument) × (after ≡ was)

-- ---- what is in answers

-- the checkpoint that was made, or how many an expiry removed
abbrev pub number_in : Answer → ℕ
number_in (answer.Checkpoint n) = n
number_in (answer.Expired gone) = length gone
number_in _ = 0

abbrev pub range_in : Answer → RangeTold
range_in (answer.Removed range) = record { removed = length range.removed; stayed = length range.stayed }
range_in _ = record { removed = 0; stayed = 0 }

abbrev pub rows_in : Answer → List Row
rows_in (answer.Rows rows) = rows
rows_in _ = []

-- ---- what is told

abbrev pub IsNumberTold : Result Answer ℕ → (number : ℕ) → (status : ℕ) → ℕ → Type 0
IsNumberTold (Ok a) number status new_number = (status ≡ done) × (new_number ≡ number_in a)
IsNumberTold (Err e) number status new_number = (status ≡ e) × (new_number ≡ number)

abbrev pub IsRangeTold : Result Answer ℕ → RangeTold → (status : ℕ) → RangeTold → Type 0
IsRangeTold (Ok a) range status new_range = (status ≡ done) × (new_range ≡ range_in a)
IsRangeTold (Err e) range status new_range = (status ≡ e) × (new_range ≡ range)

abbrev pub IsRowsTold : Result Answer ℕ → List CheckpointRow → (count : ℕ) → (status : ℕ)
    → List CheckpointRow → ℕ → Type 0
IsRowsTold (Ok a) array count status new_array new_count =
    (status ≡ done) × (new_array ≡ filled array (map row_told (rows_in a)))
    × (new_count ≡ fitting array (rows_in a))
IsRowsTold (Err e) array count status new_array new_count =
    (status ≡ e) × (new_array ≡ array) × (new_count ≡ count)

-- ---- syncing

-- a plain checkpoint is made where something is dirty; else nothing is done, and the latest one is answered
abbrev pub Syncs : (moment : ℕ) → Layout → Reply → Layout → Type 0
Syncs moment old reply new = MatchBool old.lists.dirty
    (Does unshared old (Checkpoint Plain moment) reply new)
    ((reply ≡ Ok (answer.Checkpoint old.lists.table.latest.number)) × (new ≡ old))

-- so it is done, and the latest one's number told
abbrev pub IsSynced : (moment : ℕ) → Option Held → (number : ℕ) → (status : ℕ) → Option Held → ℕ → Type 0
IsSynced moment None number status after new_number = IsClosed status after × (new_number ≡ number)
IsSynced moment (Some h) number status after new_number =
    (reply : Reply) × (new : Layout) × Syncs moment h.pen reply new
    × IsNumberTold (told_of reply) number status new_number × (after ≡ Some (with_pen new h))
