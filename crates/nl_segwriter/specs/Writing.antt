-- Logs that are written, one after another.
use Rattle.std.specs.Prelude.{◌≡◌, ℕ, ◌+◌, ◌<◌, ◌≤◌, List, [], ◌∷◌, ◌++◌, length, slice_get, slice_index_or, Option, None}
use Rattle.nl_types.specs.declared.segment.Log.{Log}
use Rattle.nl_types.specs.Blocks.Segments.{Segments, with_active, with_error}
use Rattle.nl_types.specs.Blocks.Placing.{first_block, with_logs}
use Rattle.nl_types.specs.declared.error.VolError.{VolError}
use Rattle.nl_types.specs.declared.error.VolError.TheVariants as error
use Rattle.nl_device.specs.declared.device.DeviceError.{DeviceError}
use Rattle.nl_device.specs.declared.device.DeviceError.TheVariants as device
use Rattle.nl_device.specs.Pages.{DevicePages}
use Rattle.nl_segwriter.specs.declared.staging.Staged.{Staged}
use Rattle.nl_vstore.specs.Content.{Payload, HeldPayload, SpaceContent, SameOutside, StandInRow}
use Rattle.nl_vstore.specs.Logs.{StandsFrom}
use Rattle.nl_vstore.specs.Appended.{KeepsOtherBlocks}
use Rattle.nl_segwriter.specs.Private.Staging.{logs_of, whole_of}

-- what a table of blocks has at a number
abbrev pub held_in : List (Option Payload) → HeldPayload
held_in table b = slice_index_or table b None

abbrev pub space_content : Segments → List (Option Payload) → DevicePages → SpaceContent
space_content segments table pages = record { segments = segments; held = held_in table; stored = pages }

-- the pages stand at the numbers from the first on, and all other blocks stay
pub record HasPut (first : ℕ) (pages : List (List ℕ)) (old new : DevicePages) : Type 0 where
  pub stand : StandInRow first pages new
  pub others : SameOutside first (length pages) old new

-- A put failed: so many were tried, in order. The pages before the failed one stand, its block may have
-- anything, and all other blocks stay.
pub record HasTried (first tried : ℕ) (pages : List (List ℕ)) (old new : DevicePages) : Type 0 where
  pub some : 0 < tried
  pub most : tried ≤ length pages
  pub stand : (j : ℕ) → j + 1 < tried → new (first + j) ≡ slice_get pages j
  pub others : SameOutside first tried old new

-- all but the log's blocks stay
pub record SameOutsideLog (blocks : ℕ) (log : Log) (old new : SpaceContent) : Type 0 where
  pub held : SameOutside (first_block blocks log) (log.count + 1) old.held new.held
  pub stored : SameOutside (first_block blocks log) (log.count + 1) old.stored new.stored

-- The segment may have been taken. What becomes of the segments with a log in it, or with it in error, is the
-- same.
pub record MayBeTaken (segment : ℕ) (old new : Segments) : Type 0 where
  pub logged : (stamp used : ℕ) → with_active new segment stamp used ≡ with_active old segment stamp used
  pub failed : with_error new segment ≡ with_error old segment
  pub blocks : new.blocks ≡ old.blocks
  pub count : length new.each ≡ length old.each

-- the log that was made ready stands
abbrev pub StagedStands : ℕ → Staged → SpaceContent → Type 0
StagedStands blocks x c = StandsFrom (first_block blocks x.log) (whole_of x) c.held c.stored

-- the logs stand
abbrev pub LogsStand : ℕ → List Staged → HeldPayload → DevicePages → Type 0
LogsStand blocks [] held stored = Unit {0}
LogsStand blocks (x ∷ xs) held stored =
    StandsFrom (first_block blocks x.log) (whole_of x) held stored × LogsStand blocks xs held stored

-- One of the logs was not written, and its segment is in error. Those before it stand, and no block changed
-- but theirs and its own.
pub record BreaksOff (stamp : ℕ) (all : List Staged) (old new : SpaceContent) : Type 0 where
  pub written : List Staged
  pub failed : Staged
  pub left : List Staged
  pub all_are : all ≡ written ++ failed ∷ left
  pub segments : new.segments ≡ with_error (with_logs old.segments (logs_of written) stamp) failed.log.segment
  pub stand : LogsStand old.segments.blocks written new.held new.stored
  pub others : KeepsOtherBlocks old.segments.blocks (logs_of written ++ failed.log ∷ []) old new

-- why a device refused, as a volume says it
abbrev pub refusal_of : DeviceError → VolError
refusal_of device.Fault = error.Fault
refusal_of device.Memory = error.Memory
