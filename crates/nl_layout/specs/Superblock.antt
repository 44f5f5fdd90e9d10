-- The first block of an image: its mark, how the volume is divided, and how many checkpoints are kept.
use Rattle.std.specs.Prelude.{◌≡◌, ℕ, if◌then◌else◌, ◌<◌, ◌≤◌, ◌^◌, List, ◌++◌, codes, length, replicate, take, drop}
use Rattle.byteorder.specs.Endian.{little_bytes, little_number}
use Rattle.std.specs.Str.{bytes_eq}
use Rattle.nl_layout.specs.declared.superblock.Mark.{Mark}
use Rattle.nl_layout.specs.declared.superblock.Mark.TheVariants.{First, Second}
use Rattle.nl_layout.specs.declared.superblock.Superblock.{Superblock}

abbrev pub mark_bytes : Mark → List ℕ
mark_bytes First = codes "NLVOL001"
mark_bytes Second = codes "NLVOL002"

-- ---- writing

-- the mark, the segments, the blocks of each, and the count of checkpoints
abbrev pub header_bytes : Superblock → List ℕ
header_bytes s =
    mark_bytes s.mark
    ++ little_bytes 4 s.segments
    ++ little_bytes 4 s.blocks
    ++ little_bytes 8 s.checkpoints

-- and 1,000 zeros
abbrev pub superblock_bytes : Superblock → List ℕ
superblock_bytes s = header_bytes s ++ replicate 1000 0

-- what has a spelling
pub record HasSpelling (s : Superblock) : Type 0 where
  pub segments : s.segments < 2 ^ 32
  pub blocks : s.blocks < 2 ^ 32
  pub checkpoints : s.checkpoints < 2 ^ 64

-- the bytes are the spelling of this superblock
pub record Spells (bytes : List ℕ) (s : Superblock) : Type 0 where
  pub fits : HasSpelling s
  pub spelling : bytes ≡ superblock_bytes s

-- ---- reading

-- the bytes begin as an image does
pub record HasMark (bytes : List ℕ) : Type 0 where
  pub long : 1024 ≤ length bytes
  pub mark : (mark : Mark) × (take 8 bytes ≡ mark_bytes mark)

-- which mark it is, where it is one
abbrev pub mark_at : List ℕ → Mark
mark_at bytes = if bytes_eq (take 8 bytes) (mark_bytes First) then First else Second

-- what stands in the fields, whether the bytes spell a superblock or not
abbrev pub superblock_at : List ℕ → Superblock
superblock_at bytes = record {
  mark = mark_at bytes;
  segments = little_number 4 (drop 8 bytes);
  blocks = little_number 4 (drop 12 bytes);
  checkpoints = little_number 8 (drop 16 bytes);
}
