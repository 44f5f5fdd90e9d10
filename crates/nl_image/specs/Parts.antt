-- The parts of an image, where they stand in its bytes, and the bytes of an image with these parts.
use Rattle.std.specs.Prelude.{ℕ, ◌+◌, ◌-◌, ◌*◌, ◌%◌, List, ◌++◌, drop, replicate, take, Option}
use Rattle.nl_types.specs.Blocks.Segments.{Segments}
use Rattle.nl_layout.specs.declared.checkpoint_entry.CheckpointEntry.{CheckpointEntry}
use Rattle.nl_layout.specs.declared.superblock.Superblock.{Superblock}
use Rattle.nl_layout.specs.Superblock.{mark_bytes, superblock_bytes}
use Rattle.nl_layout.specs.declared.superblock.Mark.TheVariants.{Second}
use Rattle.nl_sufile.specs.Images.{sufile_bytes}
use Rattle.nl_dat.specs.declared.entries.DatEntry.{DatEntry}
use Rattle.nl_dat.specs.EntryBytes.{dat_bytes}
use Rattle.nl_cpfile.specs.Images.{cpfile_bytes}

-- what stands in front of the blocks
pub record Parts : Type 0 where
  pub shape : Superblock
  pub segments : Segments
  -- of the virtual block numbers from 1 on
  pub numbers : List (Option DatEntry)
  pub kept : List CheckpointEntry

-- ---- where each part begins, in bytes

-- how many blocks there are
abbrev pub total_of : Superblock → ℕ
total_of s = s.segments * s.blocks

abbrev pub sufile_start : ℕ
sufile_start = 1024

abbrev pub dat_start : Superblock → ℕ
dat_start s = sufile_start + 16 * s.segments

abbrev pub cpfile_start : Superblock → ℕ
cpfile_start s = dat_start s + 24 * total_of s

abbrev pub padding_start : Superblock → ℕ
padding_start s = cpfile_start s + 160 * s.checkpoints

-- up to a whole block
abbrev pub padding_of : Superblock → ℕ
padding_of s = (1024 - padding_start s % 1024) % 1024

abbrev pub blocks_start : Superblock → ℕ
blocks_start s = padding_start s + padding_of s

abbrev pub image_length : Superblock → ℕ
image_length s = blocks_start s + 1024 * total_of s

-- ---- the bytes of each part

-- so many bytes from a first one on
abbrev pub bytes_from : ℕ → ℕ → List ℕ → List ℕ
bytes_from first count bytes = take count (drop first bytes)

abbrev pub sufile_in : Superblock → List ℕ → List ℕ
sufile_in s bytes = bytes_from sufile_start (16 * s.segments) bytes

abbrev pub dat_in : Superblock → List ℕ → List ℕ
dat_in s bytes = bytes_from (dat_start s) (24 * total_of s) bytes

abbrev pub cpfile_in : Superblock → List ℕ → List ℕ
cpfile_in s bytes = bytes_from (cpfile_start s) (160 * s.checkpoints) bytes

abbrev pub padding_in : Superblock → List ℕ → List ℕ
padding_in s bytes = bytes_from (padding_start s) (padding_of s) bytes

abbrev pub blocks_in : Superblock → List ℕ → List ℕ
blocks_in s bytes = bytes_from (blocks_start s) (1024 * total_of s) bytes

-- ---- the whole

-- the entries of segments, numbers and checkpoints, one after the other
abbrev pub entry_bytes : Parts → List ℕ
entry_bytes p = sufile_bytes p.segments ++ dat_bytes p.numbers ++ cpfile_bytes p.kept

-- the superblock, the entries, zeros up to a whole block, and all blocks
abbrev pub image_bytes : Parts → List ℕ → List ℕ
image_bytes p blocks = superblock_bytes p.shape ++ entry_bytes p ++ replicate (padding_of p.shape) 0 ++ blocks

-- bytes that begin with a mark, under the present one: that is how a volume is closed that was opened under
-- the first
abbrev pub with_present_mark : List ℕ → List ℕ
with_present_mark bytes = mark_bytes Second ++ drop 8 bytes
