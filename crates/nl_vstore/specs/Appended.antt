-- What an append leaves.
use Rattle.std.specs.Prelude.{◌≡◌, ℕ, ◌+◌, ◌<◌, ◌≤◌, ◌⊎◌, Bool, List, [], ◌∷◌, ◌++◌, length, map, take, drop}
use Rattle.std.specs.List.{AllByRecursion}
use Rattle.nl_types.specs.declared.error.VolError.{VolError}
use Rattle.nl_types.specs.declared.error.VolError.TheVariants.{NoSpace, Fault, Memory}
use Rattle.nl_types.specs.declared.segment.Log.{Log}
use Rattle.nl_types.specs.Blocks.Segments.{IsUsed, with_error}
use Rattle.nl_types.specs.Blocks.Placing.{LogsFit, addresses, first_block, with_logs}
use Rattle.nl_types.specs.Blocks.PlacingLaws.{AreUnused}
use Rattle.nl_types.specs.Blocks.PartialMaps.{Stands}
use Rattle.nl_device.specs.Pages.{DevicePages}
use Rattle.nl_vstore.specs.Content.{Payload, HeldPayload, SpaceContent, payload_page, IsSameAt}
use Rattle.nl_vstore.specs.Logs.{StandsFrom}

-- The logs stand, with the payload shared out to them in order, each behind a summary of this moment and
-- checkpoint number.
abbrev pub StandInLogs : ℕ → ℕ → ℕ → List Log → List Payload → HeldPayload → DevicePages → Type 0
StandInLogs blocks stamp checkpoint [] payload held stored = Unit {0}
StandInLogs blocks stamp checkpoint (log ∷ logs) payload held stored =
    StandsFrom (first_block blocks log)
    (record { stamp = stamp; checkpoint = checkpoint; payload = take log.count payload }) held stored
    × StandInLogs blocks stamp checkpoint logs (drop log.count payload) held stored

-- the block is none of the log's
abbrev pub IsOutside : ℕ → ℕ → Log → Type 0
IsOutside blocks b log = (b < first_block blocks log) ⊎ (first_block blocks log + (log.count + 1) ≤ b)

-- all blocks but those of the logs stay as they are
abbrev pub KeepsOtherBlocks : ℕ → List Log → SpaceContent → SpaceContent → Type 0
KeepsOtherBlocks blocks logs old new = (b : ℕ) → AllByRecursion (IsOutside blocks b) logs → IsSameAt old new b

-- The payload was written in the one list of logs that fits, and stands at these numbers, none of which was
-- used before.
pub record IsAppended (old new : SpaceContent) (reserve : Bool) (stamp checkpoint : ℕ)
    (payload : List Payload) (numbers : List ℕ) : Type 0 where
  pub logs : List Log
  pub fits : LogsFit old.segments reserve (length payload) logs
  pub segments : new.segments ≡ with_logs old.segments logs stamp
  pub logs_stand : StandInLogs old.segments.blocks stamp checkpoint logs payload new.held new.stored
  pub at : numbers ≡ addresses old.segments.blocks logs
  pub unused_before : AreUnused old.segments (length payload) numbers
  pub used_now : AllByRecursion (IsUsed new.segments) numbers
  pub held : Stands new.held numbers payload
  pub stored : Stands new.stored numbers (map payload_page payload)
  pub others : KeepsOtherBlocks old.segments.blocks logs old new

-- One of the logs that fit was not written whole: its segment is in error, and none is active. Those before
-- it are written, and no block changed but theirs and its own.
pub record IsBrokenOff (old new : SpaceContent) (reserve : Bool) (stamp checkpoint : ℕ)
    (payload : List Payload) : Type 0 where
  pub written : List Log
  pub failed : Log
  pub left : List Log
  pub fits : LogsFit old.segments reserve (length payload) (written ++ failed ∷ left)
  pub segments : new.segments ≡ with_error (with_logs old.segments written stamp) failed.segment
  pub logs_stand : StandInLogs old.segments.blocks stamp checkpoint written payload new.held new.stored
  pub others : KeepsOtherBlocks old.segments.blocks (written ++ failed ∷ []) old new

-- why an append is refused
abbrev pub IsAppendError : VolError → Type 0
IsAppendError e = (e ≡ NoSpace) ⊎ ((e ≡ Fault) ⊎ (e ≡ Memory))

-- why a load is refused, or more segments are
abbrev pub IsLoadError : VolError → Type 0
IsLoadError e = (e ≡ Fault) ⊎ (e ≡ Memory)
