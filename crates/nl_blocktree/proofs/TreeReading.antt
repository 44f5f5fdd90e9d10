-- What stands at a place of each kind of root, as it is read.
use Rattle.std.proofs.Common.{◌≡◌, ℕ, ◌-◌, ◌/◌, ◌%◌, ◌<◌, ◌≤◌, None, refl, ap, arith, inl, inr}
use Rattle.std.proofs.lemmas.Bool.{cases_eq}
use Rattle.nl_types.specs.Blocks.Roots as roots
use Rattle.nl_types.specs.Blocks.Roots.{Pages, below_top, chain_node, child, numbered, place_at}
use Rattle.nl_blocktree.specs.Private.Chains.{slots_below}
use Rattle.nl_blocktree.specs.Facts.TreeLevels.{tree_above, tree_child, tree_place}

pub place-tree_low : (pages : Pages) (height top level offset : ℕ) → level ≤ height
    → place_at pages (roots.Tree height top) level offset ≡ below_top pages top (height - level) offset
place-tree_low pages height top level offset l = tree_place pages height top level offset l

pub place-tree_far : (pages : Pages) (height top level offset : ℕ) → height < level
    → place_at pages (roots.Tree height top) level offset ≡ None
place-tree_far pages height top level offset l = tree_above pages height top level offset l

pub ruleset tree_places = (place-tree_low, place-tree_far)

-- ---- from node to node

-- the data at an index is what its node names, but for a tree of no level
pub data_under : (pages : Pages) (root : roots.Root) (index : ℕ) → ((top : ℕ) → root ≡ roots.Tree 0 top → ⊥) →
    place_at pages root 0 index
    ≡ child pages (index % slots_below root) (place_at pages root 1 (index / slots_below root))
unfolding place_at
data_under pages roots.Empty index n = refl
data_under pages (roots.Chain top) index n = refl
data_under pages (roots.Tree height top) index n = elim (cases_eq height 0) [
  | inl e ↦ absurd (n top (ap (λ (h : ℕ). roots.Tree h top) e))
  | inr e ↦ tree_child pages height top 0 index (omega (arith, e))
]
