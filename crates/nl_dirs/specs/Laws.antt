-- What packing into blocks means for a directory as a map.
use Rattle.std.specs.Prelude.{◌≡◌, ◌≢◌, ℕ, ◌≤◌, ◌+◌, List, Option, None, Some}
use Rattle.std.specs.List.{slice_get}
use Rattle.std.specs.declared.cmp.Ordering.TheVariants.{Less}
use Rattle.nl_types.specs.Plain.Paths.{Name, name_cmp}
use Rattle.nl_types.specs.Blocks.Roots.{Blocks}
use Rattle.nl_dirs.specs.declared.record.Record.{Record}
use Rattle.nl_dirs.specs.Records.{AllHaveSpelling, NamesAscend, AreBytes, HoldsList, entry_of, packed_block, sizes}
use Rattle.nl_dirs.specs.Packing.{IsPacked, Packs}
use Rattle.nl_dirs.specs.Listings.{HoldsRecords, first_name_of}

-- two packings of one map are the same blocks
abbrev pub PackingsAreOne : Type 0
PackingsAreOne = (xs ys : List Record) (blocks others : List (List ℕ)) → NamesAscend xs → NamesAscend ys →
    ((name : Name) → entry_of name xs ≡ entry_of name ys) →
    Packs xs blocks → Packs ys others → blocks ≡ others

-- any bytes hold a list of records
abbrev pub BytesHoldAList : Type 0
BytesHoldAList = (bytes : List ℕ) → AreBytes bytes → (records : List Record) × HoldsList bytes records

-- and no other
abbrev pub BytesHoldOneList : Type 0
BytesHoldOneList = (bytes : List ℕ) (xs ys : List Record) →
    HoldsList bytes xs → HoldsList bytes ys → xs ≡ ys

-- a block holds the records that it is made of
abbrev pub BlocksHoldTheirRecords : Type 0
BlocksHoldTheirRecords = (records : List Record) → AllHaveSpelling records → sizes records ≤ 1024 →
    HoldsList (packed_block records) records

-- a directory's blocks are those of one list of records
abbrev pub DirectoriesHoldOneList : Type 0
DirectoriesHoldOneList = (blocks : Blocks) (size other : ℕ) (xs ys : List Record) →
    HoldsRecords blocks size xs → HoldsRecords blocks other ys → xs ≡ ys

-- the name comes before the first one of the block, if there is such a block
abbrev pub IsBefore : Name → Option (List Record) → Type 0
IsBefore name block = (records : List Record) (first : Name) →
    block ≡ Some records → first_name_of records ≡ Some first → name_cmp name first ≡ Less

-- the name doesn't come before the first one of the block
abbrev pub IsNotBefore : Name → List Record → Type 0
IsNotBefore name records = (first : Name) →
    first_name_of records ≡ Some first → name_cmp name first ≢ Less

-- a name stands in the last block whose first name isn't behind it, or nowhere
abbrev pub NamesStandInOneBlock : Type 0
NamesStandInOneBlock =
    (records : List Record) (packed : List (List Record)) (name : Name) (i : ℕ) (block : List Record) →
    NamesAscend records → IsPacked records packed → slice_get packed i ≡ Some block →
    IsNotBefore name block → IsBefore name (slice_get packed (i + 1)) →
    entry_of name records ≡ entry_of name block

-- a name before the first one of a directory is not there
abbrev pub EarlierNamesAreAbsent : Type 0
EarlierNamesAreAbsent = (records : List Record) (packed : List (List Record)) (name : Name) →
    NamesAscend records → IsPacked records packed → IsBefore name (slice_get packed 0)
    → entry_of name records ≡ None
