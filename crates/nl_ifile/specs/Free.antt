-- Free inode numbers. No inode has a number above 524,287.
use Rattle.std.specs.Prelude.{◌≡◌, ℕ, ◌+◌, ◌*◌, ◌/◌, ◌%◌, ◌≤◌, ◌<◌, ◌==◌, if◌then◌else◌, List, [], ◌∷◌, IsSome, Option, None, Some}
use Rattle.std.specs.Option.{option_and_then}
use Rattle.nl_types.specs.Plain.Limits.{inode_limit}
use Rattle.nl_types.specs.Inodes.{AreInUseFrom, IsLowestFreeInode}
use Rattle.nl_ifile.specs.declared.change.InodeChange.{InodeChange}
use Rattle.nl_ifile.specs.Inodes.{InodeMap, inode_in}

-- what a search from a number finds: the lowest free one, or that none is
abbrev pub FindsFree : InodeMap → ℕ → Option ℕ → Type 0
FindsFree inodes from None = AreInUseFrom inodes from inode_limit
FindsFree inodes from (Some n) = IsLowestFreeInode inodes from n

-- ---- within a block

-- the number behind those of the block of this one
abbrev pub block_end : ℕ → ℕ
block_end n = (n / 8 + 1) * 8

-- the lowest number that is free from this one on, in its block
pub record IsFreeInBlock (inodes : InodeMap) (first n : ℕ) : Type 0 where
  pub low : first ≤ n
  pub high : n < block_end first
  pub free : inodes n ≡ None
  pub lowest : AreInUseFrom inodes first n

-- what a search from a number in its block finds
abbrev pub FindsFreeInBlock : InodeMap → ℕ → Option ℕ → Type 0
FindsFreeInBlock inodes first None = AreInUseFrom inodes first (block_end first)
FindsFreeInBlock inodes first (Some n) = IsFreeInBlock inodes first n

-- the inode that a number has in its block, if that is there
abbrev pub inode_of_page : Option (List ℕ) → InodeMap
inode_of_page page n = option_and_then (λ bytes. inode_in bytes (n % 8)) page

-- the change of a number, if there is one
abbrev pub change_at : List InodeChange → ℕ → Option InodeChange
change_at [] n = None
change_at (c ∷ changes) n = if n == c.number then Some c else change_at changes n
