-- The entries of the kept checkpoints in an image.
use Rattle.std.specs.Prelude.{◌≡◌, ℕ, Bool, true, not, ◌<◌, ◌≤◌, List, flat_map, All, AllPairs, IsSome}
use Rattle.std.specs.List.{list_all}
use Rattle.nl_types.specs.Plain.Limits.{checkpoint_number_limit}
use Rattle.nl_layout.specs.declared.checkpoint_entry.CheckpointEntry.{CheckpointEntry}
use Rattle.nl_layout.specs.declared.superblock.Mark.{Mark}
use Rattle.nl_layout.specs.declared.superblock.Mark.TheVariants.{First, Second}
use Rattle.nl_layout.specs.Checkpoints.{HasSpelling, checkpoint_bytes}
use Rattle.nl_layout.specs.Root.{fields_of, root_told}
use Rattle.nl_cpfile.specs.declared.checkpoint.Checkpoint.{Checkpoint}

-- the entries, one after the other
abbrev pub cpfile_bytes : List CheckpointEntry → List ℕ
cpfile_bytes kept = flat_map checkpoint_bytes kept

-- a checkpoint has a greater number than those before it, and no lower stamp
pub record Precedes (a b : CheckpointEntry) : Type 0 where
  pub number : a.number < b.number
  pub stamp : a.stamp ≤ b.stamp

-- its number is one that a checkpoint may have
pub record HasNumber (c : CheckpointEntry) : Type 0 where
  pub positive : 1 ≤ c.number
  pub limit : c.number < checkpoint_number_limit

-- numbers rise, and no stamp falls
pub record AreRising (kept : List CheckpointEntry) : Type 0 where
  pub rising : AllPairs Precedes kept
  pub numbers : All HasNumber kept

-- images of the first mark know no minor checkpoints
abbrev pub are_known_to : Mark → List CheckpointEntry → Bool
are_known_to First kept = list_all (λ (e : CheckpointEntry). not e.minor) kept
are_known_to Second kept = true

-- under the mark the bytes are the entries of these checkpoints, which rise
pub record IsCpfileOf (mark : Mark) (bytes : List ℕ) (kept : List CheckpointEntry) : Type 0 where
  pub spelled : bytes ≡ cpfile_bytes kept
  pub fit : All HasSpelling kept
  pub rise : AreRising kept
  pub known : are_known_to mark kept ≡ true

-- ---- an entry, and the checkpoint of it

-- the entry's root is one that a file may have
abbrev pub HasRoot : CheckpointEntry → Type 0
HasRoot e = IsSome (root_told e.root)

-- the entry is that of the checkpoint, whatever size the file of inodes has in it
pub record IsEntryOf (c : Checkpoint) (e : CheckpointEntry) : Type 0 where
  pub number : e.number ≡ c.number
  pub mode : e.mode ≡ c.mode
  pub minor : e.minor ≡ c.minor
  pub stamp : e.stamp ≡ c.stamp
  pub inodes : e.inodes ≡ c.inodes
  pub root : e.root ≡ fields_of c.root
