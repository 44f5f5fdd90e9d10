-- How far the bytes of an image were read.
use Rattle.std.specs.Prelude.{◌≡◌, ◌⊎◌, ◌<◌, ◌≤◌, ℕ, List, All, drop, length, replicate, IfSome, Option, Some}
use Rattle.nl_types.specs.declared.error.VolError.{VolError}
use Rattle.nl_types.specs.declared.error.VolError.TheVariants.{BadImage, Memory}
use Rattle.nl_types.specs.Blocks.Segments as segments
use Rattle.nl_types.specs.Blocks.Segments.{Segments, total_blocks}
use Rattle.nl_layout.specs.declared.checkpoint_entry.CheckpointEntry.{CheckpointEntry}
use Rattle.nl_layout.specs.declared.superblock.Superblock.{Superblock}
use Rattle.nl_vstore.specs.Content.{HeldPayload, Payload}
use Rattle.nl_vstore.specs.Images.{IsRestZero, pages_of_bytes}
use Rattle.nl_segwriter.specs.declared.images.Restored.{Restored}
use Rattle.nl_segwriter.specs.Images as spaces
use Rattle.nl_segwriter.specs.Images.{HoldLogs, IsRestored, page_in}
use Rattle.nl_segwriter.specs.Writing.{held_in}
use Rattle.nl_dat.specs.declared.entries.DatEntry.{DatEntry}
use Rattle.nl_dat.specs.EntryBytes.{HasSpelling}
use Rattle.nl_dat.specs.Images.{IsTableOver, table_of}
use Rattle.nl_dat.specs.Table.{entry_in}
use Rattle.nl_cpfile.specs.Images.{AreRising}
use Rattle.nl_check.specs.declared.conditions.ImageCondition.TheVariants as condition
use Rattle.nl_image.specs.declared.reading.ReadImage.{ReadImage}
use Rattle.nl_image.specs.declared.sections.Sections.{Sections}
use Rattle.nl_image.specs.declared.tables.ImageTables.{ImageTables}
use Rattle.nl_image.specs.Conditions.{FirstFails, HasPeriods, HasShapes, HasTrees, IsImage, IsOwn, IsShapeOf, MeetsUpTo, blocks_told}
use Rattle.nl_image.specs.Parts.{Parts, blocks_in, cpfile_in, dat_in, image_length, padding_in, sufile_in}

-- the bytes are refused by the first condition that they fail, or for want of memory
abbrev pub IsRefusal : List ℕ → VolError → Type 0
IsRefusal bytes e = (e ≡ Memory) ⊎ ((n : ℕ) × (e ≡ BadImage n) × FirstFails n bytes)

-- the bytes fail one of the first conditions, up to this one, and are refused by the first that they fail
abbrev pub FailsWithin : (most : ℕ) → List ℕ → VolError → Type 0
FailsWithin most bytes e = (n : ℕ) × (n ≤ most) × (e ≡ BadImage n) × FirstFails n bytes

-- ---- in front of the tables

-- the bytes begin with this superblock, which divides a volume, and with no other
pub record BeginsWith (bytes : List ℕ) (s : Superblock) : Type 0 where
  pub meets : (p : Parts) → p.shape ≡ s → MeetsUpTo condition.Division bytes p
  pub only : (p : Parts) → MeetsUpTo condition.Division bytes p → p.shape ≡ s

-- the bytes have their length, and these are their parts
pub record IsSectioned (x : Sections) : Type 0 where
  pub begins : BeginsWith x.image.now x.superblock
  pub shape : IsShapeOf x.geometry x.superblock
  pub long : length x.image.now ≡ image_length x.superblock
  pub segments : x.segments.now ≡ sufile_in x.superblock x.image.now
  pub numbers : x.numbers.now ≡ dat_in x.superblock x.image.now
  pub checkpoints : x.checkpoints.now ≡ cpfile_in x.superblock x.image.now
  pub padding : x.padding.now ≡ padding_in x.superblock x.image.now
  pub blocks : x.blocks.now ≡ blocks_in x.superblock x.image.now

-- ---- the tables, one after another

-- the conditions up to that on segments hold of these segments, and of no others
pub record HaveSegments (x : Sections) (segments : Segments) : Type 0 where
  pub meets : (p : Parts) → p.shape ≡ x.superblock → p.segments ≡ segments
      → MeetsUpTo condition.Segments x.image.now p
  pub only : (p : Parts) → MeetsUpTo condition.Segments x.image.now p
      → (p.shape ≡ x.superblock) × (p.segments ≡ segments)

-- parts that have these segments and checkpoints
pub record AreTold (x : Sections) (segments : Segments) (kept : List CheckpointEntry)
    (p : Parts) : Type 0 where
  pub shape : p.shape ≡ x.superblock
  pub segments_are : p.segments ≡ segments
  pub kept_are : p.kept ≡ kept

-- those up to that on checkpoints hold of them, and of no others
pub record HaveCheckpoints (x : Sections) (segments : Segments) (kept : List CheckpointEntry) : Type 0 where
  pub meets : (p : Parts) → AreTold x segments kept p → MeetsUpTo condition.Checkpoints x.image.now p
  pub only : (p : Parts) → MeetsUpTo condition.Checkpoints x.image.now p → AreTold x segments kept p

-- with what a table has for each number, 0 too
abbrev pub parts_with : Sections → Segments → List CheckpointEntry → List (Option DatEntry) → Parts
parts_with x segments kept table =
    record { shape = x.superblock; segments = segments; numbers = drop 1 table; kept = kept }

abbrev pub parts_read : Sections → ImageTables → Parts
parts_read x t = parts_with x t.segments t.kept t.numbers

-- those up to that on numbers hold of these parts, and of no others
pub record HaveTables (bytes : List ℕ) (p : Parts) : Type 0 where
  pub meets : MeetsUpTo condition.Numbers bytes p
  pub only : (q : Parts) → MeetsUpTo condition.Numbers bytes q → q ≡ p

-- number 0 is never used, and all others have a place and used blocks
pub record AreNumbered (table : List (Option DatEntry)) (segments : Segments) (p : Parts) : Type 0 where
  pub over : IsTableOver table segments
  pub table_is : table ≡ table_of p.numbers

-- ---- logs, and the trees of files

-- the block of what a table has for a number, if anything, is that number's own
abbrev pub IsOwnEntry : HeldPayload → ℕ → Option DatEntry → Type 0
IsOwnEntry payload v entry = IfSome entry (λ (e : DatEntry). IsOwn payload v e)

-- each number's block is its own
abbrev pub HaveOwn : List (Option DatEntry) → List (Option Payload) → Type 0
HaveOwn table payload = (v : ℕ) (e : DatEntry) → entry_in table v ≡ Some e → IsOwn (held_in payload) v e

-- the used blocks are read, which are whole logs, and each number's block is its own
pub record HaveReadLogs (x : Sections) (t : ImageTables) (logs : Restored) : Type 0 where
  pub restored : IsRestored t.segments (pages_of_bytes x.blocks.now) logs
  pub own : HaveOwn t.numbers logs.payload

-- the conditions on checkpoints
pub record HasCheckedTrees (bytes : List ℕ) (p : Parts) : Type 0 where
  pub shapes : HasShapes bytes p
  pub trees : HasTrees bytes p
  pub periods : HasPeriods bytes p

-- the padding, and all blocks outside used parts, are zero
pub record AreZero (x : Sections) (segments : Segments) : Type 0 where
  pub padding : x.padding.now ≡ replicate (length x.padding.now) 0
  pub blocks : IsRestZero segments (pages_of_bytes x.blocks.now)

-- ---- all of it

-- the bytes are an image, with the parts that were read
pub record IsReadImage (bytes : List ℕ) (r : ReadImage) : Type 0 where
  pub parts : Parts
  pub image : IsImage bytes parts
  pub shape : IsShapeOf r.geometry parts.shape
  pub segments : r.segments ≡ parts.segments
  pub kept : r.kept ≡ parts.kept
  pub numbers : r.numbers ≡ table_of parts.numbers
  pub logs : IsRestored parts.segments (blocks_told bytes parts) r.logs

-- what a store asks that is made of what was read
pub record CanBeRestored (r : ReadImage) : Type 0 where
  pub shape : spaces.IsTableShapeOf r.geometry r.segments
  pub pages : length r.logs.pages ≡ total_blocks r.segments
  pub logs : HoldLogs r.segments (page_in r.logs.pages) r.logs.payload
  pub have_logs : segments.HaveLogs r.segments
  pub over : IsTableOver r.numbers r.segments
  pub fit : All HasSpelling (drop 1 r.numbers)
  pub rise : AreRising r.kept
  pub some : 0 < length r.kept
