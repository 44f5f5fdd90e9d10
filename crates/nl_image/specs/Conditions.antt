-- The conditions of an image, in the order in which they are judged, and which is the first that bytes fail.
use Rattle.std.specs.Prelude.{◌≡◌, ℕ, zero, suc, ◌-◌, ◌≤◌, List, [], ◌∷◌, length, map, replicate, slice_get, take, Option, Some}
use Rattle.std.specs.Option.{option_and_then, option_map, option_map_or}
use Rattle.nl_types.specs.declared.geometry.Geometry.{Geometry}
use Rattle.nl_types.specs.Plain.Limits.{IsGeometry}
use Rattle.nl_types.specs.Blocks.Roots.{Pages}
use Rattle.nl_device.specs.Pages.{DevicePages}
use Rattle.nl_layout.specs.declared.checkpoint_entry.CheckpointEntry.{CheckpointEntry}
use Rattle.nl_layout.specs.declared.superblock.Superblock.{Superblock}
use Rattle.nl_layout.specs.Superblock.{HasMark, Spells}
use Rattle.nl_sufile.specs.Images.{IsSufileOf}
use Rattle.nl_vstore.specs.Content.{Payload}
use Rattle.nl_vstore.specs.Images.{IsRestZero, pages_of_bytes}
use Rattle.nl_vstore.specs.Batches.{number_of_payload}
use Rattle.nl_vstore.specs.Periods.{Periods}
use Rattle.nl_segwriter.specs.Images.{HoldLogs}
use Rattle.nl_segwriter.specs.Writing.{held_in}
use Rattle.nl_dat.specs.declared.entries.DatEntry.{DatEntry}
use Rattle.nl_dat.specs.Images.{IsDatOf, entry_told}
use Rattle.nl_dat.specs.Table.{period_of_entry}
use Rattle.nl_cpfile.specs.Images.{IsCpfileOf}
use Rattle.nl_check.specs.Conditions.{AreExact, AreShaped, AreTrees}
use Rattle.nl_check.specs.ImageConditions.{number_of}
use Rattle.nl_check.specs.Judging.{told}
use Rattle.nl_check.specs.declared.conditions.ImageCondition.{ImageCondition}
use Rattle.nl_check.specs.declared.conditions.ImageCondition.TheVariants as condition
use Rattle.nl_image.specs.Parts.{Parts, blocks_in, cpfile_in, dat_in, image_length, padding_in, padding_of, sufile_in}

-- ---- what an image tells

-- the number of the last entry, 0 where there is none
abbrev pub number_of_last : List CheckpointEntry → ℕ
number_of_last kept = option_map_or (λ (c : CheckpointEntry). c.number) (slice_get kept (length kept - 1)) 0

-- the number of the latest checkpoint
abbrev pub latest_told : Parts → ℕ
latest_told p = number_of_last p.kept

-- the page of each block
abbrev pub blocks_told : List ℕ → Parts → DevicePages
blocks_told bytes p = pages_of_bytes (blocks_in p.shape bytes)

-- the page under each virtual block number, and its period
abbrev pub pages_told : List ℕ → Parts → Pages
pages_told bytes p v =
    option_and_then (λ (e : DatEntry). blocks_told bytes p e.block) (entry_told p.numbers v)

abbrev pub periods_told : Parts → Periods
periods_told p v = option_map period_of_entry (entry_told p.numbers v)

-- ---- the conditions, of bytes and the parts that they spell

-- `Mark`: there are as many bytes as a superblock has, and the first ones are a mark
abbrev pub IsMarked : List ℕ → Parts → Type 0
IsMarked bytes p = HasMark bytes

-- the bytes of a superblock that divides a volume within its limits, and keeps a checkpoint
pub record IsDividedBy (bytes : List ℕ) (s : Superblock) : Type 0 where
  pub spelled : Spells bytes s
  pub geometry : IsGeometry s.segments s.blocks
  pub some : 1 ≤ s.checkpoints

-- `Division`: the superblock is such bytes
abbrev pub IsDivided : List ℕ → Parts → Type 0
IsDivided bytes p = IsDividedBy (take 1024 bytes) p.shape

-- `Length`: there are as many bytes as it tells
abbrev pub HasItsLength : List ℕ → Parts → Type 0
HasItsLength bytes p = length bytes ≡ image_length p.shape

-- how the superblock divides the volume
pub record IsShapeOf (g : Geometry) (s : Superblock) : Type 0 where
  pub segments : g.segments ≡ s.segments
  pub blocks : g.blocks ≡ s.blocks

-- `Segments`: the segments are tidy, and all that are neither clean nor in error have logs
pub record HasSegments (bytes : List ℕ) (p : Parts) : Type 0 where
  pub geometry : Geometry
  pub shape : IsShapeOf geometry p.shape
  pub told : IsSufileOf geometry (sufile_in p.shape bytes) p.segments

-- `Checkpoints`: checkpoints rise, and under the first mark none is minor
abbrev pub HasCheckpoints : List ℕ → Parts → Type 0
HasCheckpoints bytes p = IsCpfileOf p.shape.mark (cpfile_in p.shape bytes) p.kept

-- `Numbers`: each number in use has a period up to the latest checkpoint, and a used block of its own
abbrev pub HasNumbers : List ℕ → Parts → Type 0
HasNumbers bytes p = IsDatOf p.segments (latest_told p) (dat_in p.shape bytes) p.numbers

-- the block of the number is payload of a log, the record of which names the number
abbrev pub IsOwn : (ℕ → Option Payload) → ℕ → DatEntry → Type 0
IsOwn payload v e = option_map number_of_payload (payload e.block) ≡ Some v

-- `Logs`: the used part of each segment is whole logs, and each number has its own block of them
pub record HasLogs (bytes : List ℕ) (p : Parts) : Type 0 where
  pub payload : List (Option Payload)
  pub whole : HoldLogs p.segments (blocks_told bytes p) payload
  pub own : (v : ℕ) (e : DatEntry) → entry_told p.numbers v ≡ Some e → IsOwn (held_in payload) v e

-- `Shapes`: in each checkpoint all roots, nodes and blocks of inodes have their shape, and no number is met
-- twice
abbrev pub HasShapes : List ℕ → Parts → Type 0
HasShapes bytes p = AreShaped (pages_told bytes p) (map told p.kept)

-- `Trees`: the inodes of each checkpoint hold a tree
abbrev pub HasTrees : List ℕ → Parts → Type 0
HasTrees bytes p = AreTrees (pages_told bytes p) (map told p.kept)

-- `Periods`: each checkpoint meets exactly the numbers whose period has it
abbrev pub HasPeriods : List ℕ → Parts → Type 0
HasPeriods bytes p = AreExact (pages_told bytes p) (periods_told p) (map told p.kept)

-- `Zeros`: the padding, and all blocks outside used parts, are zero
pub record HasZeros (bytes : List ℕ) (p : Parts) : Type 0 where
  pub padding : padding_in p.shape bytes ≡ replicate (padding_of p.shape) 0
  pub blocks : IsRestZero p.segments (blocks_told bytes p)

-- ---- all of them

abbrev pub Condition : Type 1
Condition = List ℕ → Parts → Type 0

-- in this order
abbrev pub conditions : List Condition
conditions =
    IsMarked ∷ IsDivided ∷ HasItsLength ∷ HasSegments ∷ HasCheckpoints ∷ HasNumbers ∷ HasLogs ∷ HasShapes
    ∷ HasTrees
    ∷ HasPeriods ∷ HasZeros ∷ []

abbrev pub condition_count : ℕ
condition_count = number_of condition.Zeros

-- the first n of them hold
abbrev pub HoldFirst : ℕ → List Condition → List ℕ → Parts → Type 0
HoldFirst zero cs bytes p = Unit {0}
HoldFirst (suc n) [] bytes p = Unit {0}
HoldFirst (suc n) (c ∷ cs) bytes p = c bytes p × HoldFirst n cs bytes p

abbrev pub MeetsFirst : ℕ → List ℕ → Parts → Type 0
MeetsFirst n bytes p = HoldFirst n conditions bytes p

-- this one holds, and those before it
abbrev pub MeetsUpTo : ImageCondition → List ℕ → Parts → Type 0
MeetsUpTo c bytes p = MeetsFirst (number_of c) bytes p

-- the bytes are an image with these parts
abbrev pub IsImage : List ℕ → Parts → Type 0
IsImage bytes p = MeetsFirst condition_count bytes p

-- the bytes are an image
abbrev pub AreImage : List ℕ → Type 0
AreImage bytes = (p : Parts) × IsImage bytes p

-- The condition of this number is the first that fails: the bytes have parts that meet those before it, and
-- none that meet it too.
pub record FirstFails (n : ℕ) (bytes : List ℕ) : Type 0 where
  pub number : 1 ≤ n
  pub before : (p : Parts) × MeetsFirst (n - 1) bytes p
  pub fails : (p : Parts) → MeetsFirst n bytes p → ⊥
