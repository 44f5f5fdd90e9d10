-- A directory as a file's blocks, and how its names are found.
use Rattle.std.specs.Prelude.{◌≡◌, ℕ, ◌*◌, List, [], ◌∷◌, length, Option, None, Some}
use Rattle.std.specs.Option.{option_map}
use Rattle.std.specs.List.{slice_get}
use Rattle.nl_types.specs.Plain.Paths.{Name}
use Rattle.nl_types.specs.Blocks.Roots.{Blocks}
use Rattle.nl_dirs.specs.declared.record.Record.{Record}
use Rattle.nl_dirs.specs.Records.{AllHaveSpelling, NamesAscend, packed_block}
use Rattle.nl_dirs.specs.Packing.{IsPacked}

abbrev pub first_name_of : List Record → Option Name
first_name_of [] = None
first_name_of (r ∷ records) = Some r.name

-- the blocks by index, and the size, of a directory with these records
pub record HoldsRecords (blocks : Blocks) (size : ℕ) (records : List Record) : Type 0 where
  pub fit : AllHaveSpelling records
  pub ascending : NamesAscend records
  pub packed : List (List Record)
  pub is_packed : IsPacked records packed
  pub stored : (i : ℕ) → blocks i ≡ option_map packed_block (slice_get packed i)
  pub sized : size ≡ 1024 * length packed
