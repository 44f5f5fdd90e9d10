-- What the blocks of a file hold.
use Rattle.std.specs.Prelude.{◌≡◌, ℕ, ◌*◌, ◌/◌, ◌%◌, ◌≤◌, List, length, slice_index, Option, None, Some}
use Rattle.nl_types.specs.Blocks.Roots.{Blocks}

-- a byte of a block, where a hole stands for zeros
abbrev pub byte_in : Option (List ℕ) → ℕ → ℕ
byte_in None k = 0
byte_in (Some page) k = slice_index page k

-- The blocks by index, and the size, of a file with these bytes: behind the end are zeros, and no block
-- stands past it. For the file of an inode the bytes are `bytes_stored`.
pub record HoldsBytes (blocks : Blocks) (size : ℕ) (bytes : List ℕ) : Type 0 where
  pub sized : size ≡ length bytes
  pub stored : (k : ℕ) → byte_in (blocks (k / 1024)) (k % 1024) ≡ slice_index bytes k
  pub no_more : (i : ℕ) → size ≤ 1024 * i → blocks i ≡ None

-- a file's blocks and size are those of one list of bytes
abbrev pub FilesHoldOneList : Type 0
FilesHoldOneList = (blocks : Blocks) (size : ℕ) (xs ys : List ℕ) →
    HoldsBytes blocks size xs → HoldsBytes blocks size ys → xs ≡ ys
