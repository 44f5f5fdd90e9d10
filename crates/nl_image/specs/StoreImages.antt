-- The image of a store of pages and the checkpoints that are kept over it.
use Rattle.std.specs.Prelude.{◌≡◌, List, ℕ, length, All}
use Rattle.std.specs.List.{AllZip}
use Rattle.nl_types.specs.Blocks.Roots.{Pages, pages_of}
use Rattle.nl_layout.specs.declared.checkpoint_entry.CheckpointEntry.{CheckpointEntry}
use Rattle.nl_layout.specs.declared.superblock.Mark.TheVariants.{Second}
use Rattle.nl_layout.specs.declared.superblock.Superblock.{Superblock}
use Rattle.nl_layout.specs.Checkpoints as checkpoints
use Rattle.nl_layout.specs.Root.{root_of}
use Rattle.nl_layout.specs.Segment as segments
use Rattle.nl_layout.specs.Superblock as superblock
use Rattle.nl_vstore.specs.Images.{AreBlocksOf}
use Rattle.nl_vstore.specs.Stores.{Store, content_in, space_in}
use Rattle.nl_dat.specs.EntryBytes as numbers
use Rattle.nl_dat.specs.Table.{numbers_shown}
use Rattle.nl_cpfile.specs.declared.checkpoint.Checkpoint.{Checkpoint}
use Rattle.nl_cpfile.specs.Images.{IsEntryOf}
use Rattle.nl_blocktree.specs.FileShapes.{IsSizeOf}
use Rattle.nl_image.specs.Parts.{Parts, image_bytes}

-- the entry of a kept checkpoint, with the size of its file of inodes
pub record IsSizedEntry (pages : Pages) (c : Checkpoint) (e : CheckpointEntry) : Type 0 where
  pub entry : IsEntryOf c e
  pub size : IsSizeOf pages (root_of c.root) e.size

-- the superblock divides the volume as the store is divided, under the present mark
pub record IsShapeOfStore (store : Store) (s : Superblock) : Type 0 where
  pub mark : s.mark ≡ Second
  pub segments : s.segments ≡ length store.segments.each
  pub blocks : s.blocks ≡ store.segments.blocks

-- the parts of a store, with the entries of checkpoints
abbrev pub parts_of : Superblock → Store → List CheckpointEntry → Parts
parts_of s store entries =
    record { shape = s; segments = store.segments; numbers = numbers_shown store; kept = entries }

-- they are in front of the image of the store and of the kept checkpoints
pub record AreOf (store : Store) (kept : List Checkpoint) (s : Superblock)
    (entries : List CheckpointEntry) : Type 0 where
  pub shape : IsShapeOfStore store s
  pub count : s.checkpoints ≡ length kept
  pub sized : AllZip (IsSizedEntry (pages_of (content_in store))) kept entries

-- all of them have a spelling
pub record HaveSpelling (p : Parts) : Type 0 where
  pub shape : superblock.HasSpelling p.shape
  pub segments : All segments.HasSpelling p.segments.each
  pub numbers : All numbers.HasSpelling p.numbers
  pub kept : All checkpoints.HasSpelling p.kept

-- The bytes are spelled of the store and these entries: the parts in front, and all blocks as the device has
-- them, with zeros where none is used.
pub record IsSpelledOf (store : Store) (entries : List CheckpointEntry) (bytes : List ℕ) : Type 0 where
  pub shape : Superblock
  pub blocks : List ℕ
  pub divided : IsShapeOfStore store shape
  pub count : shape.checkpoints ≡ length entries
  pub blocks_are : AreBlocksOf (space_in store) blocks
  pub fit : HaveSpelling (parts_of shape store entries)
  pub spelled : bytes ≡ image_bytes (parts_of shape store entries) blocks

-- The bytes are the image: its parts, and all blocks as the device has them, with zeros where none is used.
pub record IsImageOf (store : Store) (kept : List Checkpoint) (bytes : List ℕ) : Type 0 where
  pub shape : Superblock
  pub entries : List CheckpointEntry
  pub blocks : List ℕ
  pub are : AreOf store kept shape entries
  pub blocks_are : AreBlocksOf (space_in store) blocks
  pub fit : HaveSpelling (parts_of shape store entries)
  pub spelled : bytes ≡ image_bytes (parts_of shape store entries) blocks
