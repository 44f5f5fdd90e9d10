-- What the blocks of a file or a directory may be.
use Rattle.std.specs.Prelude.{◌≡◌, ℕ, ◌*◌, ◌≤◌, IsTrue, List, length, None}
use Rattle.std.specs.List.{All}
use Rattle.nl_types.specs.Plain.Limits.{file_limit, path_limit}
use Rattle.nl_types.specs.Plain.Paths.{is_name}
use Rattle.nl_types.specs.Blocks.Roots.{Blocks}
use Rattle.nl_dirs.specs.declared.record.Record.{Record}
use Rattle.nl_dirs.specs.Listings.{HoldsRecords}
use Rattle.nl_tree.specs.Held.{IsInodeNumber, byte_stored}

-- at most 64 MiB, no block past the end, and zeros behind it
pub record IsSoundFile (blocks : Blocks) (size : ℕ) : Type 0 where
  pub most : size ≤ file_limit
  pub none_past : (b : ℕ) → size ≤ 1024 * b → blocks b ≡ None
  pub zeros : (k : ℕ) → size ≤ k → byte_stored blocks k ≡ 0

-- a record's name may stand in a path, and its number be an inode's
abbrev pub IsSoundRecord : Record → Type 0
IsSoundRecord r = IsTrue (is_name r.name) × IsInodeNumber r.inode

-- at most as many records as there are ordinary inodes, each sound
pub record AreSoundRecords (records : List Record) : Type 0 where
  pub each : All IsSoundRecord records
  pub few : length records ≤ path_limit

-- the blocks of sound records
pub record IsSoundDirectory (blocks : Blocks) (size : ℕ) : Type 0 where
  pub records : List Record
  pub holds : HoldsRecords blocks size records
  pub sound : AreSoundRecords records
