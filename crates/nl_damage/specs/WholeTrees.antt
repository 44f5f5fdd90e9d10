-- Trees of checkpoints that are sound, by the pages that the entries of numbers name.
use Rattle.std.specs.Prelude.{◌≡◌, [], Some}
use Rattle.nl_types.specs.Inodes.{MeansTree}
use Rattle.nl_types.specs.Blocks.Roots.{Pages, Root}
use Rattle.nl_types.specs.Plain.Trees.{Tree, IsTree}
use Rattle.nl_tree.specs.Held.{Holding, inodes_of_holding}
use Rattle.nl_files.specs.CheckpointTrees.{HoldsTree}
use Rattle.nl_check.specs.Conditions.{IsSoundShape, IsSoundTree, Told}
use Rattle.nl_damage.specs.declared.ruins.Ruin.{Ruin}

-- the inodes of a root stand for the tree
pub record StandsForTree (pages : Pages) (root : Root) (tree : Tree) : Type 0 where
  pub holding : Holding
  pub holds : HoldsTree pages root holding
  pub means : MeansTree (inodes_of_holding holding) tree

-- it is within the limits of trees
pub record HoldsWithin (pages : Pages) (root : Root) (tree : Tree) : Type 0 where
  pub stands : StandsForTree pages root tree
  pub limits : IsTree tree

-- The files of a checkpoint have their shape, and its inodes hold a tree, as an image asks of each. It is this
-- tree.
pub record HasTree (pages : Pages) (c : Told) (tree : Tree) : Type 0 where
  pub shape : IsSoundShape pages c
  pub sound : IsSoundTree pages c
  pub root : Root
  pub told : c.root ≡ Some root
  pub stands : StandsForTree pages root tree

-- a checkpoint that is sound so has a tree
abbrev pub SoundCheckpointsHaveTrees : Type 0
SoundCheckpointsHaveTrees =
    (pages : Pages) (c : Told) → IsSoundShape pages c → IsSoundTree pages c → (tree : Tree) × HasTree pages c tree

-- the whole tree is read, and nothing is lost
pub record IsWhole (tree : Tree) (r : Ruin) : Type 0 where
  pub read : r.tree ≡ tree
  pub none_lost : r.lost.items ≡ []
