-- What the logs on the device say of the blocks of a segment.
use Rattle.std.specs.Prelude.{◌≡◌, ℕ, ◌+◌, ◌*◌, List, map, Option}
use Rattle.nl_types.specs.Blocks.Segments.{info_of}
use Rattle.nl_types.specs.Blocks.Placing.{blocks_from}
use Rattle.nl_vstore.specs.Content.{Payload}
use Rattle.nl_vstore.specs.Logs.{FillDevice, WholeLog, slots_of}
use Rattle.nl_vstore.specs.Stores.{Store, IsStore, device_in, payload_in}

-- the used part of a segment is these logs, on the device alone
abbrev pub StandOnDevice : Store → ℕ → List WholeLog → Type 0
StandOnDevice s segment logs =
    FillDevice (segment * s.segments.blocks)
    (segment * s.segments.blocks + (info_of s.segments.each segment).used) logs (device_in s)

-- the payload in memory of each block in the used part of a segment
abbrev pub payload_row : Store → ℕ → List (Option Payload)
payload_row s segment =
    map (payload_in s) (blocks_from (segment * s.segments.blocks) (info_of s.segments.each segment).used)

-- the row is the blocks of the logs that the device has in a segment
pub record IsOfLogs (s : Store) (segment : ℕ) (row : List (Option Payload)) : Type 0 where
  pub logs : List WholeLog
  pub stand : StandOnDevice s segment logs
  pub slots : row ≡ slots_of logs

-- ---- laws

-- two lists of logs that the device has in one segment are one
abbrev pub SummariesAreOne : Type 0
SummariesAreOne =
    (s : Store) (segment : ℕ) (logs others : List WholeLog) → StandOnDevice s segment logs
    → StandOnDevice s segment others → logs ≡ others

-- the device has logs in each segment of a store, and memory has their blocks
abbrev pub RowsAreOfLogs : Type 0
RowsAreOfLogs = (s : Store) (segment : ℕ) → IsStore s → IsOfLogs s segment (payload_row s segment)
