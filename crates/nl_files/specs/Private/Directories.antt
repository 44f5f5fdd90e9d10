-- The blocks of a directory, one after another, and how the one that has a name is found.
use Rattle.std.specs.Prelude.{◌≡◌, ℕ, ◌+◌, ◌<◌, Bool, MatchBool, List, Option, None, Some}
use Rattle.std.specs.List.{slice_get}
use Rattle.std.specs.Option.{option_map}
use Rattle.nl_types.specs.Plain.Paths.{Name}
use Rattle.nl_types.specs.Blocks.Roots.{Blocks}
use Rattle.nl_dirs.specs.declared.record.Record.{Record}
use Rattle.nl_dirs.specs.Records.{IsPageOf, packed_block}
use Rattle.nl_dirs.specs.Laws.{IsBefore, IsNotBefore}

-- the blocks are the pages of these records, and so many
pub record AreBlocksOf (blocks : Blocks) (count : ℕ) (packed : List (List Record)) : Type 0 where
  pub stored : (i : ℕ) → blocks i ≡ option_map packed_block (slice_get packed i)
  pub within : (i : ℕ) → i < count → (block : List Record) × (slice_get packed i ≡ Some block)
  pub past : slice_get packed count ≡ None
  pub pages : (i : ℕ) (block : List Record) → slice_get packed i ≡ Some block
      → IsPageOf (packed_block block) block

-- whether the first name of a directory's page is behind a name
abbrev pub StartsBehind : Name → Option (List ℕ) → Bool → Type 0
StartsBehind name page behind =
    (block : List Record) → page ≡ Some (packed_block block) → IsPageOf (packed_block block) block
    → MatchBool behind (IsBefore name (Some block)) (IsNotBefore name block)

-- the block at the index begins with no name behind this one
pub record BeginsBy (name : Name) (packed : List (List Record)) (index : ℕ) : Type 0 where
  pub block : List Record
  pub is : slice_get packed index ≡ Some block
  pub not_before : IsNotBefore name block

-- a name stands in the block at the index, or nowhere; with no index it stands nowhere
abbrev pub StandsInBlock : Name → List (List Record) → Option ℕ → Type 0
StandsInBlock name packed None = IsBefore name (slice_get packed 0)
StandsInBlock name packed (Some i) =
    BeginsBy name packed i × IsBefore name (slice_get packed (i + 1))
