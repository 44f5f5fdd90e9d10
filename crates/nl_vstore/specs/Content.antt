-- What a space of blocks holds, block by block, in memory and on its device.
use Rattle.std.specs.Prelude.{◌≡◌, ℕ, ◌+◌, ◌*◌, ◌<◌, ◌≤◌, ◌⊎◌, List, [], ◌∷◌, length, slice_get, Option, Some, None}
use Rattle.nl_types.specs.declared.geometry.Geometry.{Geometry}
use Rattle.nl_types.specs.Blocks.Segments.{Segments, IsUsed, grown_to, with_clean}
use Rattle.nl_sufile.specs.Table.{all_clean}
use Rattle.nl_device.specs.Pages.{DevicePages}
use Rattle.nl_layout.specs.declared.tag.Tag.{Tag}

-- a payload block: what its log's summary says of it, and its bytes
abbrev pub Payload : Type 0
Payload = Tag × List ℕ

abbrev pub payload_tag : Payload → Tag
payload_tag payload = payload.0

abbrev pub payload_page : Payload → List ℕ
payload_page payload = payload.1

-- the payload in memory, by block number
abbrev pub HeldPayload : Type 0
HeldPayload = ℕ → Option Payload

pub record SpaceContent : Type 0 where
  pub segments : Segments
  pub held : HeldPayload
  -- what the device holds
  pub stored : DevicePages

-- ---- what stands where

-- the values stand in a row from a number on
abbrev pub StandInRow : {V : Type 0} → ℕ → List V → (ℕ → Option V) → Type 0
StandInRow first values f = (j : ℕ) → j < length values → f (first + j) ≡ slice_get values j

-- a row has what is held from a number on
abbrev pub IsRowOf : HeldPayload → ℕ → List (Option Payload) → Type 0
IsRowOf held first row = (k : ℕ) → k < length row → slice_get row k ≡ Some (held (first + k))

-- ---- what stays

-- all but so many blocks from a number on stay as they are
pub record SameOutside {V : Type 0} (first count : ℕ) (old new : ℕ → Option V) : Type 0 where
  pub below : (b : ℕ) → b < first → new b ≡ old b
  pub above : (b : ℕ) → first + count ≤ b → new b ≡ old b

-- the block has in memory and on the device what it had
abbrev pub IsSameAt : SpaceContent → SpaceContent → ℕ → Type 0
IsSameAt old new b = (new.held b ≡ old.held b) × (new.stored b ≡ old.stored b)

-- the used part of each of these segments stays as it is
abbrev pub KeepsUsed : Segments → SpaceContent → SpaceContent → Type 0
KeepsUsed s old new = (b : ℕ) → IsUsed s b → IsSameAt old new b

-- memory has payload in used blocks alone
abbrev pub HoldsOnlyUsed : SpaceContent → Type 0
HoldsOnlyUsed c = (b : ℕ) → (IsUsed c.segments b → ⊥) → c.held b ≡ None

-- ---- a new space, more segments, and a segment less

-- nothing is in memory, and all segments are clean
abbrev pub new_content : Geometry → DevicePages → SpaceContent
new_content g pages = record { segments = all_clean g; held = λ b. None; stored = pages }

-- The segments are grown. Memory and the used blocks of the device have what they had.
pub record IsGrown (count : ℕ) (old new : SpaceContent) : Type 0 where
  pub segments : new.segments ≡ grown_to count old.segments
  pub held : (b : ℕ) → new.held b ≡ old.held b
  pub used_stay : KeepsUsed old.segments old new

-- so many blocks from a number on are empty, and all others stay
pub record IsEmptied {V : Type 0} (first count : ℕ) (old new : ℕ → Option V) : Type 0 where
  pub inside : (j : ℕ) → j < count → new (first + j) ≡ None
  pub outside : SameOutside first count old new

-- The segment is clean, and nothing is left in its blocks. What is used elsewhere is still used, and stays.
pub record IsFreed (segment : ℕ) (old new : SpaceContent) : Type 0 where
  pub segments : new.segments ≡ with_clean old.segments segment
  pub held : IsEmptied (segment * old.segments.blocks) old.segments.blocks old.held new.held
  pub stored : IsEmptied (segment * old.segments.blocks) old.segments.blocks old.stored new.stored
  pub used_stay : KeepsUsed new.segments old new
  pub stays : (b : ℕ) → IsUsed old.segments b
      → (b < segment * old.segments.blocks) ⊎ (segment * old.segments.blocks + old.segments.blocks ≤ b)
      → IsUsed new.segments b
