-- The logs of an image, and the payload that they hold.
use Rattle.std.specs.Prelude.{◌≡◌, ℕ, ◌+◌, ◌*◌, ◌<◌, ◌≤◌, List, length, map, slice_index_or, Option, None, Some}
use Rattle.nl_types.specs.declared.geometry.Geometry.{Geometry}
use Rattle.nl_types.specs.Blocks.Segments.{Segments, IsUsed, info_of, total_blocks}
use Rattle.nl_device.specs.Pages.{DevicePages}
use Rattle.nl_layout.specs.declared.tag.Tag.{Tag}
use Rattle.nl_vstore.specs.Content.{HeldPayload, Payload, SpaceContent, StandInRow, payload_page, payload_tag}
use Rattle.nl_vstore.specs.Logs.{FillDevice, FillUpTo, StandsFrom, WholeLog}
use Rattle.nl_segwriter.specs.declared.images.Restored.{Restored}
use Rattle.nl_segwriter.specs.Writing.{held_in}

-- what a table of pages has at a number
abbrev pub page_in : List (Option (List ℕ)) → DevicePages
page_in pages b = slice_index_or pages b None

-- the pages of the used blocks, and no others
pub record AreUsedPages (s : Segments) (image : DevicePages) (pages : List (Option (List ℕ))) : Type 0 where
  pub count : length pages ≡ total_blocks s
  pub used : (b : ℕ) → IsUsed s b → page_in pages b ≡ image b
  pub unused : (b : ℕ) → (IsUsed s b → ⊥) → page_in pages b ≡ None

-- where the used part of a segment begins and ends
abbrev pub used_start : Segments → ℕ → ℕ
used_start s i = i * s.blocks

abbrev pub used_end : Segments → ℕ → ℕ
used_end s i = i * s.blocks + (info_of s.each i).used

-- the used part of each segment is whole logs
abbrev pub AreLogsIn : Segments → DevicePages → Type 0
AreLogsIn s device =
    (i : ℕ) → i < length s.each
    → (logs : List WholeLog) × FillDevice (used_start s i) (used_end s i) logs device

-- the payload of these logs is held
abbrev pub IsHeld : Segments → DevicePages → HeldPayload → ℕ → Type 0
IsHeld s device held i = (logs : List WholeLog) × FillUpTo (used_start s i) (used_end s i) logs held device

-- that of all segments is, and nothing else
pub record HoldLogs (s : Segments) (device : DevicePages) (payload : List (Option Payload)) : Type 0 where
  pub count : length payload ≡ total_blocks s
  pub held : (i : ℕ) → i < length s.each → IsHeld s device (held_in payload) i
  pub unheld : (b : ℕ) → (IsUsed s b → ⊥) → held_in payload b ≡ None

-- ---- one log

-- payload with these tags stands in a row in memory, and its pages on the device
pub record IsRowHeld (first : ℕ) (tags : List Tag) (held : HeldPayload) (device : DevicePages) : Type 0 where
  pub items : List Payload
  pub tags_are : map payload_tag items ≡ tags
  pub payload : StandInRow first items held
  pub pages : StandInRow first (map payload_page items) device

-- what stands below a number, and from another one on, stays
pub record SameAround (from to : ℕ) (old new : HeldPayload) : Type 0 where
  pub below : (b : ℕ) → b < from → new b ≡ old b
  pub above : (b : ℕ) → to ≤ b → new b ≡ old b

-- a log stands from one number up to the next one
pub record IsLogHeld (at next end : ℕ) (held : HeldPayload) (device : DevicePages) : Type 0 where
  pub log : WholeLog
  pub stands : StandsFrom at log held device
  pub behind : next ≡ at + 1 + length log.payload
  pub inside : next ≤ end

-- no payload is held between two numbers
abbrev pub IsFreeBetween : ℕ → ℕ → HeldPayload → Type 0
IsFreeBetween from to held = (b : ℕ) → from ≤ b → b < to → held b ≡ None

-- ---- what is read of an image

-- the pages are those of the used blocks, and the payload is that of the logs, as the pages have them, and as
-- the image has
pub record IsRestored (s : Segments) (image : DevicePages) (r : Restored) : Type 0 where
  pub pages : AreUsedPages s image r.pages
  pub logs : HoldLogs s (page_in r.pages) r.payload
  pub of_image : HoldLogs s image r.payload

-- the device is divided as the table says
pub record IsTableShapeOf (g : Geometry) (s : Segments) : Type 0 where
  pub segments : length s.each ≡ g.segments
  pub blocks : s.blocks ≡ g.blocks

-- the space has these segments and this payload, and stores these pages
pub record IsSpaceOf (s : Segments) (r : Restored) (c : SpaceContent) : Type 0 where
  pub segments : c.segments ≡ s
  pub held : c.held ≡ held_in r.payload
  pub stored : (b : ℕ) (page : List ℕ) → page_in r.pages b ≡ Some page → c.stored b ≡ Some page
