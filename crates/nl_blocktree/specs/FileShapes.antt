-- Which blocks a file may have, whatever their indices are, and its size.
use Rattle.std.specs.Prelude.{◌≡◌, ◌≢◌, ◌⊎◌, ℕ, ◌+◌, ◌*◌, ◌/◌, ◌≤◌, IsSome, None, Some}
use Rattle.nl_types.specs.Blocks.Roots.{NoBlocks, OfChain, OfTree, Pages, Root, height_of, kind_of, page_at, place_at}
use Rattle.nl_types.specs.Blocks.RootChanges.{HasData, HasTreeShape, places}

-- Each number has a page. A root that isn't empty has its first or topmost node. No node of a chain is past
-- its last block; a tree has its shape.
pub record HasShape (pages : Pages) (root : Root) : Type 0 where
  pub stored : (level offset v : ℕ) → place_at pages root level offset ≡ Some v → IsSome (pages v)
  pub has_top : kind_of root ≢ NoBlocks → IsSome (place_at pages root (height_of root) 0)
  pub ends_full : kind_of root ≡ OfChain → (p v : ℕ) → place_at pages root 1 p ≡ Some v
      → (i : ℕ) × (p ≤ i / 127) × HasData pages root i
  pub tree_shape : kind_of root ≡ OfTree → HasTreeShape pages root

-- the file has its shape, and no number stands at two places of it
pub record StandsAlone (pages : Pages) (root : Root) : Type 0 where
  pub shape : HasShape pages root
  pub once : (a b : ℕ × ℕ) (v : ℕ) → places pages root a ≡ Some v → places pages root b ≡ Some v → a ≡ b

-- 1,024 bytes for each index up to the last one that has data
pub record IsSizeOf (pages : Pages) (root : Root) (size : ℕ) : Type 0 where
  pub count : ℕ
  pub is : size ≡ 1024 * count
  pub none_past : (i : ℕ) → count ≤ i → page_at pages root i ≡ None
  pub last : (count ≡ 0) ⊎ ((i : ℕ) × (count ≡ i + 1) × HasData pages root i)
