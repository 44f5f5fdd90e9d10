-- The bytes of an entry of the checkpoint file: 160 of them, numbers in little endian.
use Rattle.std.specs.Prelude.{◌≡◌, ℕ, zero, suc, ◌<◌, ◌^◌, Bool, true, false, List, ◌∷◌, ◌++◌, replicate, drop, slice_index, Option, None, Some}
use Rattle.std.specs.Option.{option_map}
use Rattle.byteorder.specs.Endian.{little_bytes, little_number}
use Rattle.nl_types.specs.declared.event.Mode.{Mode}
use Rattle.nl_types.specs.declared.event.Mode.TheVariants.{Plain, Snapshot}
use Rattle.nl_layout.specs.declared.root.RootFields.{RootFields}
use Rattle.nl_layout.specs.declared.checkpoint_entry.CheckpointEntry.{CheckpointEntry}

-- ---- writing

-- 1 is a snapshot's, and 2 that of one which the volume made by itself
abbrev pub flags_of : Mode → (minor : Bool) → ℕ
flags_of Plain false = 0
flags_of Snapshot false = 1
flags_of Plain true = 2
flags_of Snapshot true = 3

-- the inode of a file of inodes: its kind, what is told of its root, 5 zeros, the size and the root's number,
-- and 104 zeros
abbrev pub inode_file_bytes : RootFields → ℕ → List ℕ
inode_file_bytes root size =
    3
    ∷ root.kind
    ∷ root.height
    ∷ replicate 5 0
    ++ little_bytes 8 size
    ++ little_bytes 8 root.number
    ++ replicate 104 0

-- the number, the stamp, the flags and 4 zeros, how many inodes are in use, and the inode of the file of
-- inodes
abbrev pub checkpoint_bytes : CheckpointEntry → List ℕ
checkpoint_bytes c =
    little_bytes 8 c.number
    ++ little_bytes 8 c.stamp
    ++ little_bytes 4 (flags_of c.mode c.minor)
    ++ replicate 4 0
    ++ little_bytes 8 c.inodes
    ++ inode_file_bytes c.root c.size

-- what has a spelling
pub record HasSpelling (c : CheckpointEntry) : Type 0 where
  pub number : c.number < 2 ^ 64
  pub stamp : c.stamp < 2 ^ 64
  pub inodes : c.inodes < 2 ^ 64
  pub size : c.size < 2 ^ 64
  pub root : c.root.number < 2 ^ 64

-- the bytes are the spelling of this entry
pub record Spells (bytes : List ℕ) (entry : CheckpointEntry) : Type 0 where
  pub fits : HasSpelling entry
  pub spelling : bytes ≡ checkpoint_bytes entry

-- ---- reading: what stands in the fields of an entry, whether the bytes spell one or not

-- the mode that flags tell, and whether the checkpoint is minor
abbrev pub flags_told : ℕ → Option (Mode × Bool)
flags_told zero = Some (Plain, false)
flags_told (suc zero) = Some (Snapshot, false)
flags_told (suc (suc zero)) = Some (Plain, true)
flags_told (suc (suc (suc zero))) = Some (Snapshot, true)
flags_told (suc (suc (suc (suc flags)))) = None

abbrev pub root_fields_at : List ℕ → RootFields
root_fields_at bytes = record {
  kind = slice_index bytes 33;
  height = slice_index bytes 34;
  number = little_number 8 (drop 48 bytes);
}

abbrev pub fields_with : List ℕ → Mode × Bool → CheckpointEntry
fields_with bytes told = record {
  number = little_number 8 bytes;
  mode = told.0;
  minor = told.1;
  stamp = little_number 8 (drop 8 bytes);
  inodes = little_number 8 (drop 24 bytes);
  root = root_fields_at bytes;
  size = little_number 8 (drop 40 bytes);
}

abbrev pub checkpoint_at : List ℕ → Option CheckpointEntry
checkpoint_at bytes = option_map (fields_with bytes) (flags_told (little_number 4 (drop 16 bytes)))
