-- Blocks of a file that are taken out of a state.
use Rattle.std.specs.Prelude.{◌≡◌, ◌+◌, ◌-◌, ◌/◌, ◌%◌, ◌*◌, ◌≤◌, ℕ, List, Option, None, get_or, length, map, min}
use Rattle.std.specs.List.{range_with_len}
use Rattle.nl_types.specs.Blocks.Roots.{Blocks}
use Rattle.nl_tree.specs.Held.{Held, held_block, held_size}

-- Bytes of a file: in these pages, the first of which is that of the block with the first byte; where a block isn't stored,
-- there is none.
pub record TakenView : Type 0 where
  pub pages : List (Option (List ℕ))
  pub start : ℕ
  pub count : ℕ

-- the pages as the blocks of a file that begins with them
abbrev pub blocks_of : List (Option (List ℕ)) → Blocks
blocks_of pages b = get_or pages b None

-- the pages are those of blocks from one on
abbrev pub ArePagesFrom : Blocks → (first : ℕ) → List (Option (List ℕ)) → Type 0
ArePagesFrom blocks first pages = pages ≡ map blocks (range_with_len first (length pages))

-- as many bytes of a file are taken from an offset on as there are, up to a length
pub record AreTaken (held : Option Held) (offset len : ℕ) (taken : TakenView) : Type 0 where
  pub all : taken.count ≡ min len (held_size held - offset)
  pub start : taken.start ≡ offset % 1024
  pub cover : taken.start + taken.count ≤ 1024 * length taken.pages
  pub pages : ArePagesFrom (held_block held) (offset / 1024) taken.pages
