-- What stands at the places of a block of inodes.
use Rattle.std.specs.Prelude.{◌≡◌, ℕ, ◌*◌, List, take, drop, Option, None, Some}
use Rattle.nl_layout.specs.declared.inode.InodeEntry.{InodeEntry}
use Rattle.nl_layout.specs.declared.inode.Inode.{Inode}
use Rattle.nl_layout.specs.Inode.{Spells}
use Rattle.nl_ifile.specs.Inodes.{inode_in}

-- the bytes of a place spell the entry, or they spell none
pub data IsEntryIn (page : List ℕ) (place : ℕ) : Option InodeEntry → Type 0 where
  spelled : (entry : InodeEntry) → Spells (take 128 (drop (128 * place) page)) entry
      → IsEntryIn page place (Some entry)
  none : ((entry : InodeEntry) → Spells (take 128 (drop (128 * place) page)) entry → ⊥)
      → IsEntryIn page place None

-- the bytes of a place spell an entry
abbrev pub IsSpelled : List ℕ → ℕ → Type 0
IsSpelled page place = (entry : InodeEntry) × Spells (take 128 (drop (128 * place) page)) entry

-- an inode in use stands at a place
abbrev pub HasInode : List ℕ → ℕ → Type 0
HasInode page place = (inode : Inode) × (inode_in page place ≡ Some inode)
