-- What calls on segments tell.
use Rattle.std.specs.Prelude.{◌≡◌, ℕ, Bool, if◌then◌else◌, length, slice_get, Option, None, Some, Result, Ok, Err}
use Rattle.std.specs.Option.{ok_or}
use Rattle.nl_types.specs.declared.error.VolError.{VolError}
use Rattle.nl_types.specs.declared.error.VolError.TheVariants.{BadRange}
use Rattle.nl_types.specs.declared.reply.Answer.{Answer}
use Rattle.nl_types.specs.declared.reply.Answer.TheVariants as answer
use Rattle.nl_types.specs.declared.segment.SegmentInfo.{SegmentInfo}
use Rattle.nl_types.specs.declared.segment.SegmentState.{SegmentState}
use Rattle.nl_types.specs.declared.segment.SegmentState.TheVariants.{Clean, Dirty, Active, Error}
use Rattle.nl_types.specs.Blocks.Segments.{clean_segments}
use Rattle.nl_types.specs.Plain.Calls.{and_then}
use Rattle.nl_types.specs.Plain.Worlds.{World}
use Rattle.nl_commit.specs.CleanerViews.{needed_told}
use Rattle.nl_commit.specs.Layout.{Layout, MeansWorld}
use Rattle.nl_core.specs.Views.{counted}
use Rattle.nl_cpfile.specs.declared.table.Cpstat.{Cpstat}
use Rattle.nl_c.specs.Statuses.{closed, done, error_number}
use Rattle.nl_c.specs.declared.held.Held.{Held}
use Rattle.nl_c.specs.declared.segments.Info.{Info}
use Rattle.nl_c.specs.declared.segments.MoveTold.{MoveTold}
use Rattle.nl_c.specs.declared.segments.SegmentTold.{SegmentTold}

-- ---- a volume

-- what is told of its checkpoints
abbrev pub kept_in : Info → Cpstat
kept_in info = record { latest = info.latest; count = info.checkpoints; snapshots = info.snapshots }

abbrev pub flag : Bool → ℕ
flag test = if test then 1 else 0

-- of the segments as they are, and of the rest as in each world that the volume means
pub record IsInfoOf (l : Layout) (info : Info) : Type 0 where
  pub segments : info.segments ≡ length l.store.segments.each
  pub blocks : info.blocks ≡ l.store.segments.blocks
  pub clean : info.clean ≡ length (clean_segments l.store.segments)
  pub kept : (w : World) → MeansWorld l w → kept_in info ≡ counted w
  pub dirty : (w : World) → MeansWorld l w → info.dirty ≡ flag w.dirty

abbrev pub IsInfoTold : Option Held → Info → (status : ℕ) → Info → Type 0
IsInfoTold None info status new_info = (status ≡ closed) × (new_info ≡ info)
IsInfoTold (Some h) info status new_info = (status ≡ done) × IsInfoOf h.pen new_info

-- ---- a segment

abbrev pub state_number : SegmentState → ℕ
state_number Clean = 0
state_number Dirty = 1
state_number Active = 2
state_number Error = 3

abbrev pub segment_told : SegmentInfo → (needed : ℕ) → SegmentTold
segment_told info needed =
    record { state = state_number info.state; stamp = info.stamp; used = info.used; needed = needed }

-- its state, and how many of its blocks are needed
abbrev pub segment_in : Layout → (segment : ℕ) → Result SegmentTold VolError
segment_in l segment =
    and_then (ok_or (slice_get l.store.segments.each segment) BadRange) (λ info.
    and_then (needed_told l segment) (λ needed. Ok (segment_told info needed)))

abbrev pub IsFoundTold : Result SegmentTold VolError → SegmentTold → (status : ℕ) → SegmentTold → Type 0
IsFoundTold (Ok found) told status new_told = (status ≡ done) × (new_told ≡ found)
IsFoundTold (Err e) told status new_told = (status ≡ error_number e) × (new_told ≡ told)

abbrev pub IsSegmentTold : Option Held → (segment : ℕ) → SegmentTold → (status : ℕ) → SegmentTold → Type 0
IsSegmentTold None segment told status new_told = (status ≡ closed) × (new_told ≡ told)
IsSegmentTold (Some h) segment told status new_told =
    IsFoundTold (segment_in h.pen segment) told status new_told

-- ---- a move

abbrev pub move_in : Answer → MoveTold
move_in (answer.Moved moved left) = record { moved = moved; left = left }
move_in _ = record { moved = 0; left = 0 }

abbrev pub IsMoveTold : Result Answer ℕ → MoveTold → (status : ℕ) → MoveTold → Type 0
IsMoveTold (Ok a) told status new_told = (status ≡ done) × (new_told ≡ move_in a)
IsMoveTold (Err e) told status new_told = (status ≡ e) × (new_told ≡ told)
