-- The file of inodes: a map from inode number to inode. Block i has the places of inodes 8 i to 8 i + 7.
use Rattle.std.specs.Prelude.{◌≡◌, ℕ, ◌+◌, ◌*◌, ◌/◌, ◌%◌, ◌==◌, if◌then◌else◌, is_some, List, [], ◌∷◌, take, drop, Option, None, Some}
use Rattle.std.specs.List.{flat_map, list_any}
use Rattle.std.specs.Option.{option_and_then}
use Rattle.std.specs.Str.{bytes_eq}
use Rattle.nl_types.specs.Blocks.Roots.{Pages, Root, page_at}
use Rattle.nl_layout.specs.declared.inode.Inode.{Inode}
use Rattle.nl_layout.specs.declared.inode.InodeEntry.{InodeEntry}
use Rattle.nl_layout.specs.declared.inode.InodeEntry.TheVariants.{Free, InUse}
use Rattle.nl_layout.specs.Inode.{entry_at, entry_bytes}

-- which inode each number has, if it has one
abbrev pub InodeMap : Type 0
InodeMap = ℕ → Option Inode

-- ---- reading

abbrev pub in_use : InodeEntry → Option Inode
in_use Free = None
in_use (InUse inode) = Some inode

-- the inode that bytes spell, if they spell one
abbrev pub inode_spelled : List ℕ → Option Inode
inode_spelled bytes =
    option_and_then (λ entry. if bytes_eq (entry_bytes entry) bytes then in_use entry else None)
    (entry_at bytes)

-- the inode at a place of a block
abbrev pub inode_in : List ℕ → ℕ → Option Inode
inode_in page place = inode_spelled (take 128 (drop (128 * place) page))

-- a root as a map from inode number to inode
abbrev pub inode_at : Pages → Root → InodeMap
inode_at pages root n = option_and_then (λ page. inode_in page (n % 8)) (page_at pages root (n / 8))

-- ---- blocks as they have to be

abbrev pub entry_for : Option Inode → InodeEntry
entry_for None = Free
entry_for (Some inode) = InUse inode

abbrev pub block_places : List ℕ
block_places = 0 ∷ 1 ∷ 2 ∷ 3 ∷ 4 ∷ 5 ∷ 6 ∷ 7 ∷ []

-- the eight inodes of a block
abbrev pub in_block : InodeMap → ℕ → ℕ → Option Inode
in_block inodes i place = inodes (8 * i + place)

-- the bytes of a block: eight entries
abbrev pub block_bytes : (ℕ → Option Inode) → List ℕ
block_bytes inodes = flat_map (λ place. entry_bytes (entry_for (inodes place))) block_places

-- a block is there exactly where one of its eight inodes is in use
abbrev pub block_for : (ℕ → Option Inode) → Option (List ℕ)
block_for inodes =
    if list_any (λ place. is_some (inodes place)) block_places then Some (block_bytes inodes) else None

-- each block of the file is the one of its eight inodes
abbrev pub IsInodeFile : Pages → Root → Type 0
IsInodeFile pages root = (i : ℕ) → page_at pages root i ≡ block_for (in_block (inode_at pages root) i)

-- the inodes of a block with one of them changed
abbrev pub with_inode : (ℕ → Option Inode) → ℕ → Option Inode → ℕ → Option Inode
with_inode inodes place inode p = if p == place then inode else inodes p
