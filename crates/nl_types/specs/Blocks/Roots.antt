-- The blocks of a file, as its root and the pages under virtual block numbers give them. A node is a page of
-- 128 slots of 8 bytes, each a virtual number in little endian, or 0 for none. In a chain, node p has the
-- numbers of data blocks 127 p to 127 p + 126, and in slot 127 the number of the next node. In a tree, node p
-- of a level has the numbers of blocks 128 p to 128 p + 127 of the level below.
--     place_at pages root level offset   the number of the block there, if there is one; data has level 0
--     page_at pages root index           the data at an index: a root is a map from index to page
use Rattle.std.specs.Prelude.{ℕ, zero, suc, ◌-◌, ◌*◌, ◌/◌, ◌%◌, ◌==◌, nat_le, if◌then◌else◌, List, drop, Option, None, Some}
use Rattle.std.specs.Option.{option_map, option_and_then}
use Rattle.byteorder.specs.Endian.{little_number}
use Rattle.nl_types.specs.Blocks.PartialMaps.{Partial}
use Rattle.nl_types.specs.Blocks.Entries.{Entry, Content}

-- the page under each number
abbrev pub Pages : Type 0
Pages = Partial (List ℕ)

-- the page at each index of a file
abbrev pub Blocks : Type 0
Blocks = Partial (List ℕ)

abbrev pub pages_of : Content → Pages
pages_of content v = option_map (λ (e : Entry). e.page) (content v)

-- where a file's blocks begin: nowhere, at the first node of a chain, or at the top of a tree of some height
pub data Root : Type 0 where
  Empty : Root
  Chain : ℕ → Root
  Tree : ℕ → ℕ → Root

-- what a number names: 0 names nothing
abbrev pub numbered : ℕ → Option ℕ
numbered zero = None
numbered (suc n) = Some (suc n)

-- what a slot of a node's page names
abbrev pub slot : ℕ → List ℕ → Option ℕ
slot s page = numbered (little_number 8 (drop (8 * s) page))

-- what a slot names of a node that there may be
abbrev pub child : Pages → ℕ → Option ℕ → Option ℕ
child pages s node = option_and_then (λ page. slot s page) (option_and_then pages node)

-- the node of a chain at a position
unfoldable pub chain_node : Pages → ℕ → ℕ → Option ℕ
chain_node pages top zero = numbered top
chain_node pages top (suc p) = child pages 127 (chain_node pages top p)

-- the block at an offset so many levels below the top of a tree
unfoldable pub below_top : Pages → ℕ → ℕ → ℕ → Option ℕ
below_top pages top zero offset = if offset == 0 then numbered top else None
below_top pages top (suc k) offset = child pages (offset % 128) (below_top pages top k (offset / 128))

-- the level of a root's first or topmost node, 0 where it has none
abbrev pub height_of : Root → ℕ
height_of Empty = 0
height_of (Chain top) = 1
height_of (Tree height top) = height

unfoldable pub place_at : Pages → Root → ℕ → ℕ → Option ℕ
place_at pages Empty level offset = None
place_at pages (Chain top) zero offset = child pages (offset % 127) (chain_node pages top (offset / 127))
place_at pages (Chain top) (suc zero) offset = chain_node pages top offset
place_at pages (Chain top) (suc (suc level)) offset = None
place_at pages (Tree height top) level offset =
    if nat_le level height then below_top pages top (height - level) offset else None

abbrev pub page_at : Pages → Root → Blocks
page_at pages root index = option_and_then pages (place_at pages root 0 index)

-- ---- kinds

pub data RootKind : Type 0 where
  NoBlocks : RootKind
  OfChain : RootKind
  OfTree : RootKind

abbrev pub kind_of : Root → RootKind
kind_of Empty = NoBlocks
kind_of (Chain top) = OfChain
kind_of (Tree height top) = OfTree
