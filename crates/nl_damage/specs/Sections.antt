-- The sections of the bytes of an image, which may be cut, and damaged anywhere.
use Rattle.std.specs.Prelude.{◌≡◌, ℕ, ◌*◌, ◌/◌, ◌-◌, ◌^◌, ◌≤◌, nat_lt, if◌then◌else◌, List, drop, length, take, Option, None, Some}
use Rattle.nl_types.specs.Plain.Limits.{IsGeometry}
use Rattle.nl_layout.specs.declared.checkpoint_entry.CheckpointEntry.{CheckpointEntry}
use Rattle.nl_layout.specs.declared.superblock.Superblock.{Superblock}
use Rattle.nl_layout.specs.declared.superblock.Mark.TheVariants.{Second}
use Rattle.nl_layout.specs.Checkpoints.{Spells}
use Rattle.nl_layout.specs.Superblock.{superblock_at}
use Rattle.nl_image.specs.Conditions.{IsShapeOf, MeetsFirst}
use Rattle.nl_image.specs.Parts.{Parts, blocks_in, blocks_start, cpfile_in, cpfile_start, dat_in, dat_start, image_length, padding_in, padding_start, sufile_in}
use Rattle.nl_damage.specs.declared.sections.Places.{Places}
use Rattle.nl_damage.specs.declared.sections.Sections.{Sections}

-- the first byte of each section, and the one behind the last of all
pub record ArePlaces (s : Superblock) (p : Places) : Type 0 where
  pub numbers : p.numbers ≡ dat_start s
  pub checkpoints : p.checkpoints ≡ cpfile_start s
  pub padding : p.padding ≡ padding_start s
  pub blocks : p.blocks ≡ blocks_start s
  pub end : p.end ≡ image_length s

-- the bytes of each section, as far as there are any
pub record AreSections (bytes : List ℕ) (x : Sections) : Type 0 where
  pub shape : IsShapeOf x.geometry x.superblock
  pub places : ArePlaces x.superblock x.places
  pub segments : x.segments.now ≡ sufile_in x.superblock bytes
  pub numbers : x.numbers.now ≡ dat_in x.superblock bytes
  pub checkpoints : x.checkpoints.now ≡ cpfile_in x.superblock bytes
  pub padding : x.padding.now ≡ padding_in x.superblock bytes
  pub blocks : x.blocks.now ≡ blocks_in x.superblock bytes

-- how many blocks the volume has
abbrev pub total_in : Sections → ℕ
total_in x = x.geometry.segments * x.geometry.blocks

-- none of their bytes is missing
pub record AreWhole (x : Sections) : Type 0 where
  pub segments : length x.segments.now ≡ 16 * x.geometry.segments
  pub numbers : length x.numbers.now ≡ 24 * total_in x
  pub checkpoints : (count : ℕ) × (length x.checkpoints.now ≡ 160 * count)
  pub blocks : length x.blocks.now ≡ 1024 * total_in x

-- an item of a list of items of so many bytes each, where there are all of its bytes
abbrev pub item_in : List ℕ → (size : ℕ) → (place : ℕ) → Option (List ℕ)
item_in items size place =
    if nat_lt place (length items / size) then Some (take size (drop (size * place) items)) else None

-- the entry that stands at a place of the table of checkpoints
pub record IsEntryAt (x : Sections) (place : ℕ) (entry : CheckpointEntry) : Type 0 where
  pub bytes : List ℕ
  pub there : item_in x.checkpoints.now 160 place ≡ Some bytes
  pub spells : Spells bytes entry

-- where the last entry stands
abbrev pub last_place : Sections → ℕ
last_place x = length x.checkpoints.now / 160 - 1

-- the number of the last entry, 0 where that can't be read
pub record IsLatest (x : Sections) (n : ℕ) : Type 0 where
  pub read : (entry : CheckpointEntry) → IsEntryAt x (last_place x) entry → n ≡ entry.number
  pub unread : ((entry : CheckpointEntry) → IsEntryAt x (last_place x) entry → ⊥) → n ≡ 0

-- what the counts of a first block tell, whatever mark it has and whatever stands behind them
abbrev pub mended_superblock : List ℕ → Superblock
mended_superblock bytes = record (superblock_at bytes) { mark = Second }

-- a superblock tells more checkpoints than a list of bytes can have entries
abbrev pub HasTooMany : Superblock → Type 0
HasTooMany s = 2 ^ 56 ≤ s.checkpoints

-- the sections of bytes that meet the first three conditions of an image
pub record AreImageSections (bytes : List ℕ) (x : Sections) : Type 0 where
  pub are : AreSections bytes x
  pub meets : (p : Parts) × MeetsFirst 3 bytes p × (p.shape ≡ x.superblock)
  pub few : HasTooMany x.superblock → ⊥

-- the counts of a first block are there, and divide a volume
pub record CountsDivide (bytes : List ℕ) : Type 0 where
  pub there : 24 ≤ length bytes
  pub divide : IsGeometry (mended_superblock bytes).segments (mended_superblock bytes).blocks
