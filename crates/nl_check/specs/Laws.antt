-- What the conditions mean.
use Rattle.std.specs.Prelude.{ℕ}
use Rattle.nl_types.specs.Blocks.Entries.{Content}
use Rattle.nl_types.specs.InodeLaws.{MeansPaths}
use Rattle.nl_types.specs.Blocks.Lifetimes.{IsExact}
use Rattle.nl_types.specs.Blocks.Roots.{Pages, Root, pages_of}
use Rattle.nl_types.specs.Plain.Trees.{Tree}
use Rattle.nl_vstore.specs.Periods.{periods_of}
use Rattle.nl_blocktree.specs.Checkpoints.{numbers_of}
use Rattle.nl_files.specs.CheckpointTrees.{HoldsTree}
use Rattle.nl_tree.specs.Held.{Holding, inodes_of_holding}
use Rattle.nl_files.specs.CheckpointRoots.{IsTreeSound, roots_at}
use Rattle.nl_check.specs.Conditions.{MeetsItsNumbers}
use Rattle.nl_check.specs.Shapes.{IsShaped}
use Rattle.nl_blocktree.specs.FileShapes.{IsSizeOf}
use Rattle.nl_check.specs.Trees.{IsTreeOf}

-- the checkpoint stands for a tree with as many paths as there are inodes in use
pub record StandsForTree (pages : Pages) (root : Root) (inodes : ℕ) : Type 0 where
  pub holding : Holding
  pub holds : HoldsTree pages root holding
  pub tree : Tree
  pub means : MeansPaths (inodes_of_holding holding) tree inodes

-- what has the shape and holds a tree is sound, and stands for that tree
abbrev pub SoundTreesAreMeant : Type 0
SoundTreesAreMeant =
    (pages : Pages) (root : Root) (size inodes : ℕ) → IsShaped pages root → IsTreeOf pages root size inodes
    → IsTreeSound pages root × StandsForTree pages root inodes

-- and reaches exactly the numbers that cover it, each at one place, where its periods are exact
abbrev pub ExactPeriodsAreExact : Type 0
ExactPeriodsAreExact = (content : Content) (c : ℕ) (root : Root) (size inodes : ℕ)
    → IsShaped (pages_of content) root → IsTreeOf (pages_of content) root size inodes
    → MeetsItsNumbers (pages_of content) (periods_of content) c root
    → IsExact content c (numbers_of (pages_of content) (roots_at (pages_of content) root))

-- the other way round: a sound checkpoint with exact lifetimes that stands for a tree meets all conditions
pub record MeetsAll (content : Content) (c : ℕ) (root : Root) (size inodes : ℕ) : Type 0 where
  pub shaped : IsShaped (pages_of content) root
  pub tree : IsTreeOf (pages_of content) root size inodes
  pub exact : MeetsItsNumbers (pages_of content) (periods_of content) c root

abbrev pub SoundCheckpointsMeetAll : Type 0
SoundCheckpointsMeetAll =
    (content : Content) (c : ℕ) (root : Root) (size : ℕ) (holding : Holding) (tree : Tree) (inodes : ℕ)
    → IsTreeSound (pages_of content) root → HoldsTree (pages_of content) root holding
    → MeansPaths (inodes_of_holding holding) tree inodes → IsSizeOf (pages_of content) root size
    → IsExact content c (numbers_of (pages_of content) (roots_at (pages_of content) root))
    → MeetsAll content c root size inodes

-- of these conditions its shape needs neither the tree's paths nor the size
abbrev pub SoundCheckpointsAreShaped : Type 0
SoundCheckpointsAreShaped = (content : Content) (c : ℕ) (root : Root) (holding : Holding)
    → IsTreeSound (pages_of content) root → HoldsTree (pages_of content) root holding
    → IsExact content c (numbers_of (pages_of content) (roots_at (pages_of content) root))
    → IsShaped (pages_of content) root
