-- What the current tree and a checkpoint of a volume show.
use Rattle.std.specs.Prelude.{◌≡◌, ℕ, Some}
use Rattle.nl_types.specs.Plain.Trees.{Tree, IsTree}
use Rattle.nl_types.specs.Plain.Worlds.{World, Copy, copy_at}
use Rattle.nl_keep.specs.Volumes.{Meaning}

-- the current tree of a world that is meant is this one
pub record ShowsCurrent (Means : Meaning) (tree : Tree) : Type 0 where
  pub world : World
  pub means : Means world
  pub has : world.tree ≡ tree
  pub is_tree : IsTree tree

-- a world is meant whose copy of this number has the tree
pub record ShowsKept (Means : Meaning) (n : ℕ) (tree : Tree) : Type 0 where
  pub world : World
  pub means : Means world
  pub copy : Copy
  pub kept : copy_at world n ≡ Some copy
  pub has : copy.tree ≡ tree
  pub is_tree : IsTree tree
