-- What is known of the inodes of a checkpoint, each by itself.
use Rattle.std.specs.Prelude.{◌≡◌, ℕ, ◌*◌, ◌<◌, ◌≤◌, Bool, true, false, List, length, slice_index_or, Option, None, Some}
use Rattle.nl_types.specs.Plain.Limits.{inode_limit}
use Rattle.nl_types.specs.declared.kind.Kind.{Kind}
use Rattle.nl_types.specs.declared.kind.Kind.TheVariants as kind
use Rattle.nl_types.specs.Blocks.RootChanges.{HasData}
use Rattle.nl_types.specs.Blocks.Roots.{Pages, Root, page_at}
use Rattle.nl_layout.specs.declared.inode.Inode.{Inode}
use Rattle.nl_layout.specs.declared.inode.InodeKind.{InodeKind}
use Rattle.nl_layout.specs.declared.inode.InodeKind.TheVariants.{File, Directory, InodeFile}
use Rattle.nl_files.specs.CheckpointRoots.{StandsFor}
use Rattle.nl_ifile.specs.Inodes.{inode_at}
use Rattle.nl_tree.specs.Held.{Holding, IsHolding}
use Rattle.nl_blocktree.specs.FileShapes.{IsSizeOf}

-- what an inode is for, where it is for a file or a directory
abbrev pub kind_for : InodeKind → Option Kind
kind_for File = Some kind.File
kind_for Directory = Some kind.Directory
kind_for InodeFile = None

abbrev pub kind_told : Option Inode → Option Kind
kind_told None = None
kind_told (Some inode) = kind_for inode.kind

-- what a table of kinds has for a number
abbrev pub kind_in : List (Option Kind) → ℕ → Option Kind
kind_in kinds i = slice_index_or kinds i None

-- the pages of a file are there and whole, and so many indices lead up to its last block
pub record IsMeasured (pages : Pages) (root : Root) (count : ℕ) : Type 0 where
  pub sized : IsSizeOf pages root (1024 * count)
  pub stored : (i : ℕ) → HasData pages root i → (page : List ℕ) × (page_at pages root i ≡ Some page)
  pub whole : (i : ℕ) (page : List ℕ) → page_at pages root i ≡ Some page → length page ≡ 1024

-- the inode stands for what an inode of its number may hold
pub record IsSoundInode (pages : Pages) (number : ℕ) (inode : Option Inode) : Type 0 where
  pub holding : Holding
  pub stands : StandsFor pages inode (holding number)
  pub limits : IsHolding holding

-- Of the inodes below a number: their kinds stand in a table that has nothing for all others, and whether
-- each is sound.
pub record TellsInodes (pages : Pages) (root : Root) (n : ℕ) (kinds : List (Option Kind))
    (sound : Bool) : Type 0 where
  pub count : length kinds ≡ inode_limit
  pub told : (i : ℕ) → i < n → i < inode_limit → kind_in kinds i ≡ kind_told (inode_at pages root i)
  pub rest : (i : ℕ) → n ≤ i → kind_in kinds i ≡ None
  pub all : sound ≡ true → (i : ℕ) → i < n → IsSoundInode pages i (inode_at pages root i)
  pub some_not : sound ≡ false → (i : ℕ) × (IsSoundInode pages i (inode_at pages root i) → ⊥)

-- the same of all inodes
pub record TellsAll (pages : Pages) (root : Root) (kinds : List (Option Kind)) (sound : Bool) : Type 0 where
  pub count : length kinds ≡ inode_limit
  pub told : (i : ℕ) → i < inode_limit → kind_in kinds i ≡ kind_told (inode_at pages root i)
  pub all : sound ≡ true → (i : ℕ) → IsSoundInode pages i (inode_at pages root i)
  pub some_not : sound ≡ false → (i : ℕ) × (IsSoundInode pages i (inode_at pages root i) → ⊥)
