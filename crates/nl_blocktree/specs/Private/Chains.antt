-- A chain as lists: its nodes' numbers, and the numbers in all its slots, one node after the other.
use Rattle.std.specs.Prelude.{◌≡◌, ℕ, List, slice_index, slice_get, Option, None}
use Rattle.std.specs.Option.{unwrap_or}
use Rattle.nl_types.specs.Blocks.Roots.{Pages, Root, Empty, Chain, Tree, numbered, place_at}

-- the number of a slot, 0 for none
abbrev pub raw : Option ℕ → ℕ
raw o = unwrap_or o 0

-- what a slot names
abbrev pub names : List ℕ → ℕ → Option ℕ
names slots i = numbered (slice_index slots i)

-- the first node of a chain
abbrev pub top_of : Root → Option ℕ
top_of Empty = None
top_of (Chain top) = numbered top
top_of (Tree height top) = None

-- how many blocks of data stand below a node of a root
abbrev pub slots_below : Root → ℕ
slots_below Empty = 128
slots_below (Chain top) = 127
slots_below (Tree height top) = 128

pub record ChainAsLists (pages : Pages) (root : Root) (nodes slots : List ℕ) : Type 0 where
  pub nodes_at : (p : ℕ) → place_at pages root 1 p ≡ slice_get nodes p
  pub slots_at : (i : ℕ) → raw (place_at pages root 0 i) ≡ slice_index slots i
