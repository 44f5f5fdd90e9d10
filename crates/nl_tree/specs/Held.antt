-- What inodes in use hold, down to the blocks that are stored.
use Rattle.std.specs.Prelude.{◌≡◌, ◌⊎◌, ℕ, IsTrue, ◌≤◌, ◌*◌, ◌/◌, ◌%◌, List, [], length, map, Option, None, Some}
use Rattle.std.specs.List.{All, range_with_len}
use Rattle.std.specs.Option.{option_map}
use Rattle.nl_types.specs.Plain.Limits.{file_limit, first_inode, last_inode, path_limit, root_inode}
use Rattle.nl_types.specs.Plain.Paths.{Name, is_name}
use Rattle.nl_types.specs.declared.kind.Kind.{Kind}
use Rattle.nl_types.specs.declared.kind.Kind.TheVariants as kind
use Rattle.nl_types.specs.declared.reply.Object.{Object}
use Rattle.nl_types.specs.declared.reply.Object.TheVariants.{Dir, File}
use Rattle.nl_types.specs.Blocks.Roots.{Blocks}
use Rattle.nl_types.specs.Inodes.{InodeContent, Bytes, Records, Inodes}
use Rattle.nl_dirs.specs.declared.record.Record.{Record}
use Rattle.nl_dirs.specs.Records.{NamesAscend, entry_of}
use Rattle.nl_tree.specs.Contents.{byte_in}

-- what an inode holds: a file its size and its stored blocks, a directory its records, ascending by name
pub data Held : Type 0 where
  Stored : ℕ → Blocks → Held
  Listed : List Record → Held

-- what each inode in use holds
abbrev pub Holding : Type 0
Holding = ℕ → Option Held

-- ---- as bytes and names

abbrev pub byte_stored : Blocks → ℕ → ℕ
byte_stored blocks k = byte_in (blocks (k / 1024)) (k % 1024)

-- so many bytes of the blocks; a hole stands for zeros
abbrev pub bytes_stored : Blocks → ℕ → List ℕ
bytes_stored blocks size = map (byte_stored blocks) (range_with_len 0 size)

abbrev pub inode_content : Held → InodeContent
inode_content (Stored size blocks) = Bytes (bytes_stored blocks size)
inode_content (Listed records) = Records (λ name. entry_of name records)

-- what inodes hold, without blocks
abbrev pub inodes_of_holding : Holding → Inodes
inodes_of_holding holding i = option_map inode_content (holding i)

-- ---- its parts

-- what a directory has under a name: an inode and its kind
abbrev pub held_record : Option Held → Name → Option (ℕ × Kind)
held_record None name = None
held_record (Some (Stored size blocks)) name = None
held_record (Some (Listed records)) name = entry_of name records

abbrev pub held_size : Option Held → ℕ
held_size None = 0
held_size (Some (Stored size blocks)) = size
held_size (Some (Listed records)) = 0

abbrev pub held_block : Option Held → Blocks
held_block None b = None
held_block (Some (Stored size blocks)) b = blocks b
held_block (Some (Listed records)) b = None

-- how many names a directory has
abbrev pub held_count : Option Held → ℕ
held_count None = 0
held_count (Some (Stored size blocks)) = 0
held_count (Some (Listed records)) = length records

-- a new file or directory, and what it is in the tree
abbrev pub new_held : Kind → Held
new_held kind.File = Stored 0 (λ _. None)
new_held kind.Directory = Listed []

abbrev pub new_object : Kind → Object
new_object kind.File = File []
new_object kind.Directory = Dir

-- ---- what is true of every tree's inodes

-- the root directory's, or an ordinary one
abbrev pub IsInodeNumber : ℕ → Type 0
IsInodeNumber i = (i ≡ root_inode) ⊎ ((first_inode ≤ i) × (i ≤ last_inode))

-- at most 64 MiB, whole blocks, none of them past the end, and zeros behind it
pub record IsFileHeld (size : ℕ) (blocks : Blocks) : Type 0 where
  pub small : size ≤ file_limit
  pub none_past : (b : ℕ) → size ≤ 1024 * b → blocks b ≡ None
  pub zeros : (k : ℕ) → size ≤ k → byte_stored blocks k ≡ 0
  pub whole : (b : ℕ) (page : List ℕ) → blocks b ≡ Some page → length page ≡ 1024

-- names that may stand in a path, ascending, of inodes with a number that one may have
pub record IsDirectoryHeld (records : List Record) : Type 0 where
  pub ascending : NamesAscend records
  pub names : All (λ r. IsTrue (is_name r.name) × IsInodeNumber r.inode) records
  pub count : length records ≤ path_limit

-- what an inode may hold
abbrev pub MayHold : Option Held → Type 0
MayHold None = Unit {0}
MayHold (Some (Stored size blocks)) = IsFileHeld size blocks
MayHold (Some (Listed records)) = IsDirectoryHeld records

-- each inode in use has a number that one may have, and holds what it may
pub record IsHolding (holding : Holding) : Type 0 where
  pub inode_numbers : (i : ℕ) (held : Held) → holding i ≡ Some held → IsInodeNumber i
  pub each : (i : ℕ) (held : Held) → holding i ≡ Some held → MayHold (Some held)
