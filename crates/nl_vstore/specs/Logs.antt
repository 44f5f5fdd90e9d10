-- Whole logs: each a summary block, and its payload right behind it.
use Rattle.std.specs.Prelude.{◌≡◌, ℕ, ◌+◌, ◌*◌, List, [], ◌∷◌, ◌++◌, length, map, Option, Some, None}
use Rattle.nl_types.specs.Blocks.Segments.{info_of}
use Rattle.nl_device.specs.Pages.{DevicePages}
use Rattle.nl_layout.specs.Summary.{Contents, SummaryHasSpelling, summary_bytes}
use Rattle.nl_vstore.specs.Content.{Payload, HeldPayload, SpaceContent, payload_tag, payload_page, StandInRow}

-- what a log says: its moment, a checkpoint number, and its payload
pub record WholeLog : Type 0 where
  pub stamp : ℕ
  pub checkpoint : ℕ
  pub payload : List Payload

-- what its summary says
abbrev pub contents_of : WholeLog → Contents
contents_of log =
    record { stamp = log.stamp; checkpoint = log.checkpoint; tags = map payload_tag log.payload }

-- The log stands from block b on. The device has its summary there, where memory has no payload. Behind it
-- the payload stands in memory, and its pages on the device.
pub record StandsFrom (b : ℕ) (log : WholeLog) (held : HeldPayload) (stored : DevicePages) : Type 0 where
  pub fits : SummaryHasSpelling (contents_of log)
  pub summary : stored b ≡ Some (summary_bytes (contents_of log))
  pub no_payload : held b ≡ None
  pub payload : StandInRow (b + 1) log.payload held
  pub pages : StandInRow (b + 1) (map payload_page log.payload) stored

-- the logs stand one right behind another, from block b up to the end
abbrev pub FillUpTo : ℕ → ℕ → List WholeLog → HeldPayload → DevicePages → Type 0
FillUpTo b end [] held stored = b ≡ end
FillUpTo b end (log ∷ logs) held stored =
    StandsFrom b log held stored × FillUpTo (b + 1 + length log.payload) end logs held stored

-- the used part of a segment is these logs
abbrev pub IsFilledBy : SpaceContent → ℕ → List WholeLog → Type 0
IsFilledBy c i logs =
    FillUpTo (i * c.segments.blocks)
    (i * c.segments.blocks + (info_of c.segments.each i).used) logs c.held c.stored

-- the used part of each segment is whole logs
abbrev pub AreWholeLogs : SpaceContent → Type 0
AreWholeLogs c = (i : ℕ) → ∥ ((logs : List WholeLog) × IsFilledBy c i logs) ∥₁

-- the device has the log from block b on: its summary, and right behind it its pages
pub record IsOnDevice (b : ℕ) (log : WholeLog) (device : DevicePages) : Type 0 where
  pub fits : SummaryHasSpelling (contents_of log)
  pub summary : device b ≡ Some (summary_bytes (contents_of log))
  pub pages : StandInRow (b + 1) (map payload_page log.payload) device

-- it has the logs one right behind another, from block b up to the end
abbrev pub FillDevice : ℕ → ℕ → List WholeLog → DevicePages → Type 0
FillDevice b end [] device = b ≡ end
FillDevice b end (log ∷ logs) device =
    IsOnDevice b log device × FillDevice (b + 1 + length log.payload) end logs device

-- the blocks of logs, in order: none for a summary, and the payload behind it
abbrev pub slots_of : List WholeLog → List (Option Payload)
slots_of [] = []
slots_of (log ∷ logs) = None ∷ (map Some log.payload ++ slots_of logs)
