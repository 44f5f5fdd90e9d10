-- Which files and blocks of inodes a checkpoint may have.
use Rattle.std.specs.Prelude.{◌≡◌, ℕ, Option, Some}
use Rattle.nl_types.specs.Blocks.Roots.{Pages, Root, place_at}
use Rattle.nl_blocktree.specs.FileShapes.{HasShape}
use Rattle.nl_files.specs.CheckpointRoots.{inode_root}
use Rattle.nl_ifile.specs.Inodes.{IsInodeFile, inode_at}

-- whose a block is: the file of inodes has some itself, and each inode may have some
pub data Owner : Type 0 where
  Itself : Owner
  Of : ℕ → Owner

-- the root of an owner's blocks, where this is the root of the file of inodes
abbrev pub root_for : Pages → Root → Owner → Root
root_for pages root Itself = root
root_for pages root (Of i) = inode_root (inode_at pages root i)

-- a place of a block
pub record At : Type 0 where
  pub owner : Owner
  pub level : ℕ
  pub offset : ℕ

-- the number that is met there
abbrev pub met : Pages → Root → At → Option ℕ
met pages root at = place_at pages (root_for pages root at.owner) at.level at.offset

-- All files have their shape, each block of the file of inodes is one of inodes and has one in use, and no
-- number is met at two places.
pub record IsShaped (pages : Pages) (root : Root) : Type 0 where
  pub files : (owner : Owner) → HasShape pages (root_for pages root owner)
  pub inodes : IsInodeFile pages root
  pub once : (p q : At) (v : ℕ) → met pages root p ≡ Some v → met pages root q ≡ Some v → p ≡ q
