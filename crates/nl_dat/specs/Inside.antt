-- What stands behind a store: the table, and a space with the payload.
use Rattle.std.specs.Prelude.{◌≡◌, ℕ, true, ◌+◌, ◌≤◌, List, length, map, Option, None, Some}
use Rattle.std.specs.List.{range_with_len}
use Rattle.std.specs.Option.{option_map, option_and_then}
use Rattle.nl_types.specs.Blocks.Segments.{IsUsed, total_blocks}
use Rattle.nl_types.specs.Blocks.PartialMaps.{Partial}
use Rattle.nl_types.specs.Blocks.Entries.{Birth}
use Rattle.nl_device.specs.Failures.{Failures, failure_count}
use Rattle.nl_vstore.specs.Content.{Payload, SpaceContent, payload_page}
use Rattle.nl_dat.specs.declared.entries.DatEntry.{DatEntry}
use Rattle.nl_vstore.specs.Batches.{birth_of_item, births_of}
use Rattle.nl_dat.specs.Table.{AreInUse, entry_in, addresses_of, meaning_of, stored_at, HaveOwnPayload}
use Rattle.nl_vstore.specs.Stores.{Numbered, Store, is_inside}

-- the payload of a space as births, by block number
abbrev pub births_in : SpaceContent → Partial Birth
births_in space b = option_map birth_of_item (space.held b)

-- what an entry of the table stands for, and where
abbrev pub numbered_with : DatEntry → Birth → Numbered
numbered_with entry payload = record { entry = meaning_of entry payload; block = entry.block }

abbrev pub numbered_at : Partial Birth → DatEntry → Option Numbered
numbered_at stored entry = option_map (numbered_with entry) (stored entry.block)

abbrev pub numbered_of : Partial Birth → Option DatEntry → Option Numbered
numbered_of stored entry = option_and_then (numbered_at stored) entry

abbrev pub store_of : List (Option DatEntry) → SpaceContent → Failures → Store
store_of table space failed = record {
  numbers = map (numbered_of (births_in space)) table;
  segments = space.segments;
  device = map space.stored (range_with_len 0 (total_blocks space.segments));
  payload = map space.held (range_with_len 0 (total_blocks space.segments));
  failures = failure_count failed;
  failed = failed;
}

-- the page of the number stands in the segment
abbrev pub StandsIn : List (Option DatEntry) → SpaceContent → ℕ → ℕ → Type 0
StandsIn table space segment v = is_inside space.segments segment (addresses_of (entry_in table) v) ≡ true

-- the payload at the block of a number, as a birth
abbrev pub birth_under : List (Option DatEntry) → SpaceContent → Partial Birth
birth_under table space = stored_at (entry_in table) (births_in space)

-- the payload is that of the numbers, in their order
abbrev pub AreRead : List (Option DatEntry) → SpaceContent → List ℕ → List Payload → Type 0
AreRead table space numbers payload = map (birth_under table space) numbers ≡ map Some (births_of payload)

-- the payload at the block of each number in use is its own, in memory and on the device
pub record IsBacked (table : List (Option DatEntry)) (space : SpaceContent) : Type 0 where
  pub sound : HaveOwnPayload (addresses_of (entry_in table)) (births_in space)
  pub used : (v b : ℕ) → addresses_of (entry_in table) v ≡ Some b → IsUsed space.segments b
  pub stored : (v b : ℕ) → addresses_of (entry_in table) v ≡ Some b
      → space.stored b ≡ option_map payload_page (space.held b)

-- The table has a place for 0, which is never used, and for each number. The payload at the block of a number
-- is its own, in memory and on the device. Below the lowest number that may be free all are in use.
pub record IsDatTable (table : List (Option DatEntry)) (lowest : ℕ) (space : SpaceContent) : Type 0 where
  pub full : length table ≡ total_blocks space.segments + 1
  pub zero_unused : entry_in table 0 ≡ None
  pub sound : HaveOwnPayload (addresses_of (entry_in table)) (births_in space)
  pub used : (v b : ℕ) → addresses_of (entry_in table) v ≡ Some b → IsUsed space.segments b
  pub stored : (v b : ℕ) → addresses_of (entry_in table) v ≡ Some b
      → space.stored b ≡ option_map payload_page (space.held b)
  pub positive : 1 ≤ lowest
  pub within : lowest ≤ length table
  pub below_lowest : AreInUse table 1 lowest
