-- The table of virtual block numbers in an image.
use Rattle.std.specs.Prelude.{◌≡◌, ℕ, ◌+◌, ◌*◌, ◌<◌, ◌≤◌, Bool, true, false, List, ◌∷◌, length, take, drop, All, IfSome, slice_index_or, slice_set, Option, None, Some}
use Rattle.std.specs.Option.{option_map}
use Rattle.nl_types.specs.Blocks.Entries.{number_of}
use Rattle.nl_types.specs.Blocks.PartialMaps.{Partial}
use Rattle.nl_types.specs.Blocks.Segments.{Segments, IsUsed, total_blocks}
use Rattle.nl_vstore.specs.Content.{SpaceContent}
use Rattle.nl_dat.specs.declared.entries.DatEntry.{DatEntry}
use Rattle.nl_dat.specs.EntryBytes.{HasSpelling, Spells, dat_bytes}
use Rattle.nl_dat.specs.Inside.{births_in}
use Rattle.nl_dat.specs.Table.{addresses_of, entry_in}
use Rattle.nl_dat.specs.TakenOut.{HaveOwnBlocks}

-- the table of the numbers from 1 on: 0 is never used
abbrev pub table_of : List (Option DatEntry) → List (Option DatEntry)
table_of numbers = None ∷ numbers

-- what is told of a number
abbrev pub entry_told : List (Option DatEntry) → Partial DatEntry
entry_told numbers v = entry_in (table_of numbers) v

-- it begins at a checkpoint up to the latest one, and ends at a later one, if it has ended
pub record HasPeriod (latest : ℕ) (e : DatEntry) : Type 0 where
  pub begins : 1 ≤ e.start
  pub starts : e.start ≤ latest
  pub lasts : (c : ℕ) → e.end ≡ Some c → e.start < c
  pub ends : (c : ℕ) → e.end ≡ Some c → c ≤ latest

-- an entry has a period up to the latest checkpoint, and a used block
pub record IsEntry (s : Segments) (latest : ℕ) (e : DatEntry) : Type 0 where
  pub period : HasPeriod latest e
  pub used : IsUsed s e.block

-- The bytes are the entries of the numbers from 1 on, as many as there are blocks. Each number in use has a
-- period and a used block of its own.
pub record IsDatOf (s : Segments) (latest : ℕ) (bytes : List ℕ)
    (numbers : List (Option DatEntry)) : Type 0 where
  pub spelled : bytes ≡ dat_bytes numbers
  pub fit : All HasSpelling numbers
  pub count : length numbers ≡ total_blocks s
  pub entries : (v : ℕ) (e : DatEntry) → entry_told numbers v ≡ Some e → IsEntry s latest e
  pub apart : HaveOwnBlocks (addresses_of (entry_told numbers))

-- the table is that of numbers which the bytes tell
pub record IsTableOf (s : Segments) (latest : ℕ) (bytes : List ℕ)
    (table : List (Option DatEntry)) : Type 0 where
  pub numbers : List (Option DatEntry)
  pub told : IsDatOf s latest bytes numbers
  pub table_is : table ≡ table_of numbers

-- ---- of one number, and of all but for blocks that two have

abbrev pub IsSoundNumber : Segments → ℕ → Option DatEntry → Type 0
IsSoundNumber s latest entry = IfSome entry (IsEntry s latest)

-- the entry that stands at a place
pub record IsEntryAt (s : Segments) (latest : ℕ) (bytes : List ℕ) (i : ℕ)
    (entry : Option DatEntry) : Type 0 where
  pub spells : Spells (take 24 (drop (24 * i) bytes)) entry
  pub sound : IsSoundNumber s latest entry

-- the bytes are the entries of such numbers
pub record AreEntriesOf (s : Segments) (latest : ℕ) (bytes : List ℕ)
    (numbers : List (Option DatEntry)) : Type 0 where
  pub spelled : bytes ≡ dat_bytes numbers
  pub fit : All HasSpelling numbers
  pub count : length numbers ≡ total_blocks s
  pub sound : All (IsSoundNumber s latest) numbers

-- ---- which blocks are taken

-- the block of the entry, if there is one, was free, and it is taken now
abbrev pub TakesBlock : Option DatEntry → List Bool → List Bool → Type 0
TakesBlock None old new = new ≡ old
TakesBlock (Some e) old new = (slice_index_or old e.block false ≡ false) × (new ≡ slice_set old e.block true)

-- there is an entry, and its block was taken before
abbrev pub HasTakenBlock : Option DatEntry → List Bool → Type 0
HasTakenBlock None old = ⊥
HasTakenBlock (Some e) old = slice_index_or old e.block false ≡ true

-- ---- a table over a space

-- there is a place for each number, and for 0, which is never used; and each number in use has a used block
pub record IsTableOver (table : List (Option DatEntry)) (s : Segments) : Type 0 where
  pub full : length table ≡ total_blocks s + 1
  pub zero_unused : entry_in table 0 ≡ None
  pub used : (v b : ℕ) → addresses_of (entry_in table) v ≡ Some b → IsUsed s b

-- the payload at the entry's block, if there is an entry, is the number's
abbrev pub HasOwn : SpaceContent → ℕ → Option DatEntry → Type 0
HasOwn space v entry =
    IfSome entry (λ (e : DatEntry). option_map number_of (births_in space e.block) ≡ Some v)
