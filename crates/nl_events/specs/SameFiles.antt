-- Files that are one in two checkpoints, as their inodes tell.
use Rattle.std.specs.Prelude.{◌≡◌, ℕ, Option, None, Some, Result, Ok, Err}
use Rattle.nl_types.specs.declared.error.VolError.{VolError}
use Rattle.nl_types.specs.declared.kind.Kind.TheVariants as kind
use Rattle.nl_types.specs.Inodes.{Link}
use Rattle.nl_types.specs.Plain.Paths.{Path}
use Rattle.nl_types.specs.Resolving.{resolve}
use Rattle.nl_types.specs.Blocks.Roots.{Pages, Root}
use Rattle.nl_layout.specs.Root.{root_of}
use Rattle.nl_layout.specs.declared.inode.Inode.{Inode}
use Rattle.nl_ifile.specs.Inodes.{InodeMap, inode_at}
use Rattle.nl_tree.specs.Held.{Holding, inodes_of_holding}
use Rattle.nl_files.specs.CheckpointTrees.{HoldsTree}
use Rattle.nl_cpfile.specs.Tables.{Table, checkpoint_root, kept_at}
use Rattle.nl_cpfile.specs.declared.checkpoint.Checkpoint.{Checkpoint}

-- the inode of the file that a walk has come to
abbrev pub inode_found : InodeMap → Result Link VolError → Option Inode
inode_found inodes (Ok (i, kind.File)) = inodes i
inode_found inodes (Ok (i, kind.Directory)) = None
inode_found inodes (Err e) = None

-- the inode of the file at a path, under a root whose inodes hold this
abbrev pub file_inode : Pages → Root → Holding → Path → Option Inode
file_inode pages root held path = inode_found (inode_at pages root) (resolve (inodes_of_holding held) path)

-- checkpoint n is kept, and in its tree the path leads to a file, which has this inode
pub record HasFileInode (pages : Pages) (kept : Table) (n : ℕ) (path : Path) (inode : Inode) : Type 0 where
  pub checkpoint : Checkpoint
  pub is_kept : kept_at n kept ≡ Some checkpoint
  pub held : Holding
  pub holds : HoldsTree pages (root_of (checkpoint_root checkpoint)) held
  pub leads : file_inode pages (root_of (checkpoint_root checkpoint)) held path ≡ Some inode

-- the path leads to one inode in both checkpoints: kind, size and root are equal
abbrev pub IsOneInode : Pages → Table → (old new : ℕ) → Path → Type 0
IsOneInode pages kept old new path =
    (inode : Inode) × HasFileInode pages kept old path inode × HasFileInode pages kept new path inode

-- the root of each kept checkpoint stands for a tree
abbrev pub AreHeld : Pages → Table → Type 0
AreHeld pages kept =
    (n : ℕ) (c : Checkpoint) → kept_at n kept ≡ Some c
    → (held : Holding) × HoldsTree pages (root_of (checkpoint_root c)) held
