-- The bytes of an entry of the table of virtual block numbers: 24 of them, numbers in little endian.
use Rattle.std.specs.Prelude.{◌≡◌, ℕ, zero, suc, ◌<◌, ◌≤◌, ◌^◌, ◌==◌, if◌then◌else◌, List, ◌++◌, drop, flat_map, replicate, unwrap_or, Option, None, Some}
use Rattle.byteorder.specs.Endian.{little_bytes, little_number}
use Rattle.nl_types.specs.Plain.Limits.{checkpoint_number_limit}
use Rattle.nl_dat.specs.declared.entries.DatEntry.{DatEntry}

-- ---- writing

-- zeros where the number is not in use; else the block, the start and the end, of which one that has not come
-- is the number that no checkpoint has
abbrev pub number_bytes : Option DatEntry → List ℕ
number_bytes None = replicate 24 0
number_bytes (Some e) =
    little_bytes 8 e.block
    ++ little_bytes 8 e.start
    ++ little_bytes 8 (unwrap_or e.end checkpoint_number_limit)

-- the entries, one after the other
abbrev pub dat_bytes : List (Option DatEntry) → List ℕ
dat_bytes numbers = flat_map number_bytes numbers

-- what has a spelling
pub record NumberHasSpelling (e : DatEntry) : Type 0 where
  pub block : e.block < 2 ^ 32
  -- else it would be spelled as no entry is
  pub begins : 1 ≤ e.start
  pub start : e.start < 2 ^ 64
  pub end : (c : ℕ) → e.end ≡ Some c → c < checkpoint_number_limit

abbrev pub HasSpelling : Option DatEntry → Type 0
HasSpelling None = Unit {0}
HasSpelling (Some e) = NumberHasSpelling e

-- the bytes are the spelling of what the table has for a number
pub record Spells (bytes : List ℕ) (entry : Option DatEntry) : Type 0 where
  pub fits : HasSpelling entry
  pub spelling : bytes ≡ number_bytes entry

-- ---- reading: what stands in the fields of an entry, whether the bytes spell one or not

abbrev pub end_at : ℕ → Option ℕ
end_at number = if number == checkpoint_number_limit then None else Some number

abbrev pub entry_with : ℕ → List ℕ → Option DatEntry
entry_with zero bytes = None
entry_with (suc before) bytes = Some (record {
  block = little_number 4 bytes;
  start = suc before;
  end = end_at (little_number 8 (drop 16 bytes));
})

abbrev pub entry_of_bytes : List ℕ → Option DatEntry
entry_of_bytes bytes = entry_with (little_number 8 (drop 8 bytes)) bytes
