-- How the records of a directory go on from block to block.
use Rattle.std.specs.Prelude.{◌≡◌, ℕ, ◌+◌, ◌-◌, ◌<◌, List, ◌++◌, length, slice_get, Some}
use Rattle.std.specs.declared.cmp.Ordering.TheVariants.{Less}
use Rattle.nl_types.specs.Plain.Paths.{name_cmp}
use Rattle.nl_dirs.specs.declared.record.Record.{Record}
use Rattle.nl_dirs.specs.Records.{IsPageOf, size_of, sizes}

-- The first record of a block comes behind all others by its name, and had no room in the last block of
-- theirs, which has so many bytes in use.
pub record BeginsNextBlock (all : List Record) (used : ℕ) (block : List Record) : Type 0 where
  pub first : Record
  pub is : slice_get block 0 ≡ Some first
  pub full : 1024 < used + size_of first
  pub behind : (last : Record) → slice_get all (length all - 1) ≡ Some last
      → name_cmp last.name first.name ≡ Less

-- the records of a page are added behind others, and take so many bytes there
pub record IsAdded (page : List ℕ) (used : ℕ) (all new : List Record) (size : ℕ) : Type 0 where
  pub block : List Record
  pub is_page : IsPageOf page block
  pub follows : BeginsNextBlock all used block
  pub added : new ≡ all ++ block
  pub size_is : size ≡ sizes block
  pub one : (other : List Record) → IsPageOf page other → block ≡ other
