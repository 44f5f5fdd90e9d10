-- Inodes that hold the same names as others.
use Rattle.std.specs.Prelude.{◌≡◌, ℕ, List, Option, None, Some}
use Rattle.nl_types.specs.Inodes.{InodeContent, Bytes, Records, Inodes}
use Rattle.nl_layout.specs.declared.inode.Inode.{Inode}
use Rattle.nl_layout.specs.declared.inode.InodeKind.TheVariants.{File}

-- two inodes hold bytes, whichever, or the same records, or nothing
abbrev pub AreAlike : Option InodeContent → Option InodeContent → Type 0
AreAlike None b = b ≡ None
AreAlike (Some (Bytes bytes)) b = (other : List ℕ) × (b ≡ Some (Bytes other))
AreAlike (Some (Records records)) b = b ≡ Some (Records records)

-- so do all: no directory, no kind and no inode in use changed
abbrev pub NamesAlike : Inodes → Inodes → Type 0
NamesAlike a b = (i : ℕ) → AreAlike (a i) (b i)

-- both are inodes of files
pub record AreFiles (a b : Option Inode) : Type 0 where
  pub one : Inode
  pub other : Inode
  pub one_is : a ≡ Some one
  pub other_is : b ≡ Some other
  pub one_file : one.kind ≡ File
  pub other_file : other.kind ≡ File
