-- The bytes of an inode: 128 of them, numbers in little endian.
use Rattle.std.specs.Prelude.{◌≡◌, ℕ, zero, suc, ◌<◌, ◌≤◌, ◌^◌, List, ◌∷◌, ◌++◌, replicate, drop, slice_index, Option, None, Some}
use Rattle.std.specs.Option.{option_map}
use Rattle.byteorder.specs.Endian.{little_bytes, little_number}
use Rattle.nl_layout.specs.declared.inode.Inode.{Inode}
use Rattle.nl_layout.specs.declared.inode.InodeKind.{InodeKind}
use Rattle.nl_layout.specs.declared.inode.InodeKind.TheVariants.{File, Directory, InodeFile}
use Rattle.nl_layout.specs.declared.inode.InodeEntry.{InodeEntry}
use Rattle.nl_layout.specs.declared.inode.InodeEntry.TheVariants.{Free, InUse}
use Rattle.nl_layout.specs.Root.{fields_of, root_told_by}

-- ---- writing

abbrev pub inode_kind_code : InodeKind → ℕ
inode_kind_code File = 1
inode_kind_code Directory = 2
inode_kind_code InodeFile = 3

-- the kind, the root's kind and its height, 5 zeros, the size and the root's number, and 104 zeros
abbrev pub inode_bytes : Inode → List ℕ
inode_bytes inode =
    let root = fields_of inode.root in
    inode_kind_code inode.kind
    ∷ root.kind
    ∷ root.height
    ∷ replicate 5 0
    ++ little_bytes 8 inode.size
    ++ little_bytes 8 root.number
    ++ replicate 104 0

abbrev pub entry_bytes : InodeEntry → List ℕ
entry_bytes Free = replicate 128 0
entry_bytes (InUse inode) = inode_bytes inode

-- what has a spelling
pub record InodeHasSpelling (inode : Inode) : Type 0 where
  pub size : inode.size < 2 ^ 64
  pub height : (fields_of inode.root).height ≤ 3
  pub number : (fields_of inode.root).number < 2 ^ 64

abbrev pub EntryHasSpelling : InodeEntry → Type 0
EntryHasSpelling Free = Unit {0}
EntryHasSpelling (InUse inode) = InodeHasSpelling inode

-- the bytes are the spelling of this entry
pub record Spells (bytes : List ℕ) (entry : InodeEntry) : Type 0 where
  pub fits : EntryHasSpelling entry
  pub spelling : bytes ≡ entry_bytes entry

-- ---- reading: what stands in the fields of an entry, whether the bytes spell one or not

abbrev pub used_entry_at : InodeKind → List ℕ → Option InodeEntry
used_entry_at kind bytes =
    option_map (λ root. InUse (record { kind = kind; root = root; size = little_number 8 (drop 8 bytes) }))
    (root_told_by (slice_index bytes 1) (slice_index bytes 2) (little_number 8 (drop 16 bytes)))

abbrev pub entry_with : ℕ → List ℕ → Option InodeEntry
entry_with zero bytes = Some Free
entry_with (suc zero) bytes = used_entry_at File bytes
entry_with (suc (suc zero)) bytes = used_entry_at Directory bytes
entry_with (suc (suc (suc zero))) bytes = used_entry_at InodeFile bytes
entry_with (suc (suc (suc (suc code)))) bytes = None

abbrev pub entry_at : List ℕ → Option InodeEntry
entry_at bytes = entry_with (slice_index bytes 0) bytes
