-- A tree as its levels, and what of a root's levels can be kept.
use Rattle.std.specs.Prelude.{◌≡◌, ◌<◌, ◌==◌, ◌+◌, ◌*◌, ◌/◌, ◌%◌, ℕ, zero, suc, if◌then◌else◌, List, [], ◌∷◌, IsSome, Option, None, Some}
use Rattle.nl_types.specs.Blocks.Entries.{Content}
use Rattle.nl_types.specs.Blocks.Roots.{Pages, Root, Empty, Chain, Tree, OfChain, below_top, child, kind_of, numbered, pages_of, place_at}
use Rattle.nl_types.specs.Blocks.RootChanges.{IsSound}
use Rattle.nl_vstore.specs.Stores.{Store, content_in}
use Rattle.nl_blocktree.specs.Private.Chains.{raw}
use Rattle.nl_blocktree.specs.Numbering.{IsLive}

-- the number at each level and offset
abbrev pub Levels : Type 0
Levels = ℕ → ℕ → Option ℕ

-- one node alone at the top
abbrev pub only : ℕ → ℕ → Option ℕ
only top offset = if offset == 0 then numbered top else None

-- these are the levels of a tree
pub record AreLevels (pages : Pages) (height top : ℕ) (levels : Levels) : Type 0 where
  pub tops : (offset : ℕ) → levels height offset ≡ only top offset
  pub children : (level offset : ℕ) → level < height →
      levels level offset ≡ child pages (offset % 128) (levels (suc level) (offset / 128))

-- each node of a tree has a block below it
abbrev pub HasFullNodes : Pages → (height top : ℕ) → Type 0
HasFullNodes pages height top =
    (l offset v : ℕ) → l < height → place_at pages (Tree height top) (suc l) offset ≡ Some v →
    (s : ℕ) × (s < 128) × IsSome (place_at pages (Tree height top) l (128 * offset + s))

-- the numbers of the nodes above an offset so many levels below a tree's top, lowest first, 0 for none
abbrev pub nodes_above : Pages → (top levels offset : ℕ) → List ℕ
nodes_above pages top zero offset = []
nodes_above pages top (suc levels) offset =
    raw (below_top pages top levels (offset / 128)) ∷ nodes_above pages top levels (offset / 128)

-- of a chain, the node above the data at an index
abbrev pub IsNodeOf : Pages → Root → (index : ℕ) → (node : Option ℕ) → Type 0
IsNodeOf pages root index node = kind_of root ≡ OfChain → node ≡ place_at pages root 1 (index / 127)

-- ---- what can be kept

-- the data alone
abbrev pub data_alone : Levels → Levels
data_alone levels zero offset = levels 0 offset
data_alone levels (suc l) offset = None

-- the levels that can be kept: those of a tree, and the data alone of a chain
abbrev pub kept_levels : Pages → Root → Levels
kept_levels pages Empty = place_at pages Empty
kept_levels pages (Chain top) = data_alone (place_at pages (Chain top))
kept_levels pages (Tree height top) = place_at pages (Tree height top)

-- those of a root in a store
abbrev pub kept_in : Store → Root → Levels
kept_in store root = kept_levels (pages_of (content_in store)) root

-- how high a tree is, and 0 for other roots
abbrev pub tree_height : Root → ℕ
tree_height Empty = 0
tree_height (Chain top) = 0
tree_height (Tree height top) = height

-- what is kept of a root that may be changed: each number has a page, has not ended, and has one place
pub record HasKept (content : Content) (root : Root) : Type 0 where
  pub sound : IsSound (pages_of content) root
  pub live : IsLive content root

-- the levels of a tree in use, or of no tree, which have a block for each of their numbers
pub record AreOldLevels (content : Content) (height : ℕ) (levels : Levels) : Type 0 where
  pub stored : (l offset v : ℕ) → levels l offset ≡ Some v → IsSome (pages_of content v)
  pub once : (p q : ℕ × ℕ) (v : ℕ) → levels p.0 p.1 ≡ Some v → levels q.0 q.1 ≡ Some v → p ≡ q
  pub children : (l offset : ℕ) → l < height →
      levels l offset ≡ child (pages_of content) (offset % 128) (levels (suc l) (offset / 128))
  pub full : (l offset v : ℕ) → levels (suc l) offset ≡ Some v →
      (s : ℕ) × (s < 128) × IsSome (levels l (128 * offset + s))
  pub none_above : (l offset : ℕ) → height < l → levels l offset ≡ None
