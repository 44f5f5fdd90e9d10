-- The table of virtual block numbers over the payload that is stored.
use Rattle.std.specs.Prelude.{◌≡◌, ◌≢◌, ℕ, ◌<◌, ◌≤◌, ◌==◌, Bool, true, false, List, length, drop, map, is_some, slice_index_or, MatchOption, Option, None, Some}
use Rattle.std.specs.Option.{option_map, option_and_then}
use Rattle.nl_types.specs.Blocks.PartialMaps.{Partial}
use Rattle.nl_types.specs.Blocks.Entries.{Birth, Entry, Content, number_of}
use Rattle.nl_vstore.specs.Stores.{Numbered, Store}
use Rattle.nl_dat.specs.declared.entries.DatEntry.{DatEntry}
use Rattle.nl_types.specs.declared.period.Period.{Period}

-- what a table has at a number
abbrev pub entry_in : List (Option DatEntry) → Partial DatEntry
entry_in table v = slice_index_or table v None

-- a number in use as an entry of the table
abbrev pub dat_entry_of : Numbered → DatEntry
dat_entry_of n = record { block = n.block; start = n.entry.start; end = n.entry.end }

-- what a store has for each number, as entries
abbrev pub entries_shown : Store → List (Option DatEntry)
entries_shown s = map (option_map dat_entry_of) s.numbers

-- and for the numbers from 1 on
abbrev pub numbers_shown : Store → List (Option DatEntry)
numbers_shown s = map (option_map dat_entry_of) (drop 1 s.numbers)

abbrev pub period_of_entry : DatEntry → Period
period_of_entry entry = record { start = entry.start; end = entry.end }

-- ---- which numbers are in use

-- each number from one on and below another
abbrev pub AreInUse : List (Option DatEntry) → ℕ → ℕ → Type 0
AreInUse table from end = (v : ℕ) → from ≤ v → v < end → is_some (entry_in table v) ≡ true

-- the number is not, and each from one on and below it is
pub record IsFirstFree (table : List (Option DatEntry)) (from v : ℕ) : Type 0 where
  pub low : from ≤ v
  pub within : v < length table
  pub free : entry_in table v ≡ None
  pub before : AreInUse table from v

abbrev pub block_of : DatEntry → ℕ
block_of entry = entry.block

-- the block of each number in use
abbrev pub addresses_of : Partial DatEntry → Partial ℕ
addresses_of entries v = option_map block_of (entries v)

-- what an entry stands for, with the payload at its block
abbrev pub meaning_of : DatEntry → Birth → Entry
meaning_of entry payload =
    record { place = payload.place; page = payload.page; start = entry.start; end = entry.end }

abbrev pub meaning_at : Partial Birth → DatEntry → Option Entry
meaning_at stored entry = option_map (meaning_of entry) (stored entry.block)

-- what each number in use stands for
abbrev pub content_of : Partial DatEntry → Partial Birth → Content
content_of entries stored v = option_and_then (meaning_at stored) (entries v)

-- the payload at the block of each number in use is its own
abbrev pub HaveOwnPayload : Partial ℕ → Partial Birth → Type 0
HaveOwnPayload addresses stored = (v b : ℕ) → addresses v ≡ Some b → option_map number_of (stored b) ≡ Some v

-- whether an entry, if there is one, has this block
abbrev pub has_block : ℕ → Option DatEntry → Bool
has_block b None = false
has_block b (Some entry) = entry.block == b

-- the number, where its page stands at the block
abbrev pub IsNumberWith : Partial ℕ → ℕ → Option ℕ → Option ℕ → Type 0
IsNumberWith addresses block number found =
    MatchOption found ((v : ℕ) → number ≡ Some v → addresses v ≢ Some block) (λ v. addresses v ≡ Some block)

-- what is stored at the block of a number
abbrev pub stored_at : Partial DatEntry → Partial Birth → Partial Birth
stored_at entries stored v = option_and_then (λ s. stored s.block) (entries v)

-- ---- changes

abbrev pub new_entry : ℕ → ℕ → DatEntry
new_entry c b = record { block = b; start = c; end = None }

abbrev pub ended_entry : ℕ → DatEntry → DatEntry
ended_entry c entry = record entry { end = Some c }

abbrev pub moved_entry : ℕ → DatEntry → DatEntry
moved_entry b entry = record entry { block = b }
