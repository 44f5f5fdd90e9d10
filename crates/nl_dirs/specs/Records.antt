-- The records of a directory, and their bytes.
--     record_bytes r         the spelling of a record
--     packed_block records   the block of these records
--     entry_of name records  what the name stands for, if there is a record of it
--     HoldsList bytes records  the records that the bytes begin with, as many as there are
use Rattle.std.specs.Prelude.{◌≡◌, ◌≢◌, ℕ, ◌+◌, ◌-◌, ◌<◌, ◌≤◌, ◌^◌, if◌then◌else◌, List, [], ◌∷◌, ◌++◌, length, slice_index, replicate, Option, None, Some}
use Rattle.std.specs.List.{All, AllPairs, flat_map}
use Rattle.std.specs.declared.cmp.Ordering.TheVariants.{Less}
use Rattle.byteorder.specs.Endian.{little_bytes}
use Rattle.nl_types.specs.Plain.Limits.{name_limit}
use Rattle.nl_types.specs.Plain.Paths.{Name, name_cmp, same_name}
use Rattle.nl_types.specs.declared.kind.Kind.{Kind}
use Rattle.nl_types.specs.declared.kind.Kind.TheVariants.{File, Directory}
use Rattle.nl_dirs.specs.declared.record.Record.{Record}

-- what has a spelling: a name of 1 to 255 bytes, and an inode number of 4 bytes
pub record RecordHasSpelling (r : Record) : Type 0 where
  pub some : 1 ≤ length r.name
  pub most : length r.name ≤ name_limit
  pub inode : r.inode < 2 ^ 32

abbrev pub kind_code : Kind → ℕ
kind_code File = 1
kind_code Directory = 2

-- the inode in little endian, the kind, the length of the name, and the name
abbrev pub record_bytes : Record → List ℕ
record_bytes r = little_bytes 4 r.inode ++ kind_code r.kind ∷ length r.name ∷ r.name

abbrev pub size_of : Record → ℕ
size_of r = 6 + length r.name

abbrev pub sizes : List Record → ℕ
sizes [] = 0
sizes (r ∷ records) = size_of r + sizes records

-- a block of these records: one behind the other, then zeros
abbrev pub packed_block : List Record → List ℕ
packed_block records = flat_map record_bytes records ++ replicate (1024 - sizes records) 0

-- ---- a directory as a map

-- what the name stands for: the inode and kind of the first record of it
abbrev pub entry_of : Name → List Record → Option (ℕ × Kind)
entry_of name [] = None
entry_of name (r ∷ records) = if same_name name r.name then Some (r.inode, r.kind) else entry_of name records

-- names ascend by their bytes, so no name stands twice
abbrev pub NamesAscend : List Record → Type 0
NamesAscend records = AllPairs (λ a b. name_cmp a.name b.name ≡ Less) records

abbrev pub AllHaveSpelling : List Record → Type 0
AllHaveSpelling records = All RecordHasSpelling records

-- ---- reading any bytes

abbrev pub AreBytes : List ℕ → Type 0
AreBytes bytes = (i : ℕ) → slice_index bytes i < 256

-- the bytes begin with the spelling of a record, and these are behind it
pub record Begins (bytes : List ℕ) (r : Record) (behind : List ℕ) : Type 0 where
  pub fits : RecordHasSpelling r
  pub spelling : bytes ≡ record_bytes r ++ behind

-- no record begins the bytes
abbrev pub BeginsNone : List ℕ → Type 0
BeginsNone bytes = (r : Record) (behind : List ℕ) → RecordHasSpelling r → bytes ≢ record_bytes r ++ behind

-- The records that bytes begin with, behind which no record begins. Each list of bytes holds exactly one
-- list.
pub record HoldsList (bytes : List ℕ) (records : List Record) : Type 0 where
  pub fit : AllHaveSpelling records
  pub rest : List ℕ
  pub begins : bytes ≡ flat_map record_bytes records ++ rest
  pub no_more : BeginsNone rest

-- the page is that of these records, as a directory has it
pub record IsPageOf (page : List ℕ) (records : List Record) : Type 0 where
  pub fit : AllHaveSpelling records
  pub some : records ≢ []
  pub ascending : NamesAscend records
  pub room : sizes records ≤ 1024
  pub spelling : page ≡ packed_block records
