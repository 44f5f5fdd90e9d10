-- What the inodes of a checkpoint have to hold.
use Rattle.std.specs.Prelude.{◌≡◌, ℕ}
use Rattle.nl_types.specs.Plain.Limits.{inode_limit}
use Rattle.nl_check.specs.InodeTrees.{FormTree, used_below}
use Rattle.nl_types.specs.Blocks.Roots.{Pages, Root}
use Rattle.nl_blocktree.specs.FileShapes.{IsSizeOf}
use Rattle.nl_tree.specs.Held.{Holding, IsHolding, inodes_of_holding}
use Rattle.nl_files.specs.CheckpointRoots.{Stores}

-- The inodes are files and directories, each within its limits and of its size. They form a tree, and are as
-- many as is told. The file of inodes has its size.
pub record IsTreeOf (pages : Pages) (root : Root) (size inodes : ℕ) : Type 0 where
  pub holding : Holding
  pub stores : Stores pages root holding
  pub limits : IsHolding holding
  pub forms : FormTree (inodes_of_holding holding)
  pub counted : inodes ≡ used_below (inodes_of_holding holding) inode_limit
  pub sized : IsSizeOf pages root size
