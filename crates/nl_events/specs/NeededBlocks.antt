-- The counts of a pen's needed blocks, and what removals of checkpoints do to them.
use Rattle.std.specs.Prelude.{◌≡◌, ◌⊎◌, ℕ, ◌-◌, ◌<◌, ◌≤◌, true, All, List, [], length, slice_index_or}
use Rattle.std.specs.List.{AllPairs}
use Rattle.nl_types.specs.Plain.NumberLists.{is_one_of}
use Rattle.nl_types.specs.declared.event.Mode.{Mode}
use Rattle.nl_types.specs.declared.geometry.Geometry.{Geometry}
use Rattle.nl_types.specs.declared.reply.Answer.{Answer}
use Rattle.nl_types.specs.declared.reply.Answer.TheVariants.{Expired, Removed}
use Rattle.nl_device.specs.Failures.{Failures}
use Rattle.nl_device.specs.Pages.{DevicePages}
use Rattle.nl_vstore.specs.Batches.{Changes}
use Rattle.nl_reclaim.specs.Counted.{Counted, IsCounted}
use Rattle.nl_commit.specs.CleaningEvents.{kept_numbers}
use Rattle.nl_commit.specs.Layout.{HasWrittenCheckpoint, IsPen, Layout, blank_layout}
use Rattle.nl_commit.specs.Volume.{Lists}

-- Each segment's count is the number of needed blocks that stand there: those that a kept checkpoint has, or
-- that have not ended.
abbrev pub AreNeededCounts : Layout → Counted → Type 0
AreNeededCounts l counted = IsCounted l.store (kept_numbers l.lists) counted

-- what is true of a pen and of the counts beside it
pub record IsCountedPen (l : Layout) (counted : Counted) : Type 0 where
  pub pen : IsPen l
  pub counts : AreNeededCounts l counted

-- before there is a checkpoint, on a device of some geometry
abbrev pub IsBlank : Layout → Type 0
IsBlank l =
    (geometry : Geometry) × (pages : DevicePages) × (failures : Failures)
    × (l ≡ blank_layout geometry pages failures)

-- a checkpoint was written, by this batch
pub record HasWrittenBatch (mode : Mode) (moment : ℕ) (batch : Changes) (old new : Layout) : Type 0 where
  pub writes : HasWrittenCheckpoint mode moment old new
  pub batch_is : writes.settled.changes ≡ batch

-- ---- removals

-- the numbers of the checkpoints that an answer tells to be gone
abbrev pub taken_out : Answer → List ℕ
taken_out (Removed range) = range.removed
taken_out (Expired gone) = gone
taken_out answer = []

-- the numbers ascend, below the latest checkpoint's
pub record AreEarlier (gone : List ℕ) (l : Lists) : Type 0 where
  pub rising : AllPairs ◌<◌ gone
  pub low : All (λ n. n < l.table.latest.number) gone

-- the first and the last of some numbers
pub record IsSpanOf (first last : ℕ) (numbers : List ℕ) : Type 0 where
  pub some : 0 < length numbers
  pub first_is : slice_index_or numbers 0 0 ≡ first
  pub last_is : slice_index_or numbers (length numbers - 1) 0 ≡ last

-- of the kept checkpoints some are gone, all of them between two numbers, both included
pub record HasLostBetween (first last : ℕ) (old new : Lists) : Type 0 where
  pub gone : (c : ℕ) → is_one_of (kept_numbers old) c ≡ true
      → (is_one_of (kept_numbers new) c ≡ true) ⊎ ((first ≤ c) × (c ≤ last))
  pub fewer : (c : ℕ) → is_one_of (kept_numbers new) c ≡ true → is_one_of (kept_numbers old) c ≡ true
