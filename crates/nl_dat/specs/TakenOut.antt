-- Numbers taken out of use, block by block of a row.
use Rattle.std.specs.Prelude.{◌≡◌, ◌≢◌, ℕ, ◌+◌, ◌<◌, ◌≤◌, ◌&&◌, nat_le, nat_lt, Bool, true, false, if◌then◌else◌, List, length, slice_index_or, slice_set, Option, None, Some}
use Rattle.nl_types.specs.Plain.NumberLists.{is_one_of, NoneTwice}
use Rattle.nl_types.specs.Blocks.PartialMaps.{Partial}
use Rattle.std.specs.Option.{option_map}
use Rattle.nl_vstore.specs.Content.{Payload}
use Rattle.nl_vstore.specs.Batches.{number_of_payload}
use Rattle.nl_dat.specs.declared.entries.DatEntry.{DatEntry}
use Rattle.nl_dat.specs.declared.reclaim.TakenOut.{TakenOut}
use Rattle.nl_dat.specs.Table.{entry_in, addresses_of}

-- no two numbers have one block
abbrev pub HaveOwnBlocks : Partial ℕ → Type 0
HaveOwnBlocks addresses = (v w b : ℕ) → addresses v ≡ Some b → addresses w ≡ Some b → v ≡ w

-- what a row of payload has at a position tells which number alone may have the block
abbrev pub TellsNumber : List (Option Payload) → ℕ → Partial ℕ → ℕ → Type 0
TellsNumber row position addresses block =
    (v : ℕ) → addresses v ≡ Some block
    → option_map number_of_payload (slice_index_or row position None) ≡ Some v

-- the row tells it of each of its blocks, the first of which is given
abbrev pub TellsNumbers : List (Option Payload) → Partial ℕ → ℕ → Type 0
TellsNumbers row addresses first =
    (k v : ℕ) → k < length row → addresses v ≡ Some (first + k)
    → option_map number_of_payload (slice_index_or row k None) ≡ Some v

-- no number has the block, and nothing changes
pub record HasNone (block : ℕ) (old new : List (Option DatEntry)) : Type 0 where
  pub none : (v : ℕ) → addresses_of (entry_in old) v ≢ Some block
  pub same : new ≡ old

-- the number that has the block is taken out of use
pub record HasTakenOne (block : ℕ) (old new : List (Option DatEntry)) (v : ℕ) : Type 0 where
  pub there : addresses_of (entry_in old) v ≡ Some block
  pub taken : new ≡ slice_set old v None

-- whether the block, if there is one, is among so many from a first one on
abbrev pub is_in_row : ℕ → ℕ → Option ℕ → Bool
is_in_row first count None = false
is_in_row first count (Some b) = nat_le first b && nat_lt b (first + count)

abbrev pub lesser : Option ℕ → ℕ → ℕ
lesser None v = v
lesser (Some w) v = if nat_le w v then w else v

abbrev pub one_more : TakenOut → ℕ → TakenOut
one_more taken v = record { count = taken.count + 1; least = Some (lesser taken.least v) }

-- the least number taken out is at most this one
abbrev pub IsAtMost : Option ℕ → ℕ → Type 0
IsAtMost None v = ⊥
IsAtMost (Some least) v = least ≤ v

-- the numbers whose blocks are in the row are taken out, and counted
pub record HasTakenOut (first count : ℕ) (old new : List (Option DatEntry)) (taken : TakenOut) : Type 0 where
  pub size : length new ≡ length old
  pub left : (v : ℕ)
      → entry_in new v
      ≡ (if is_in_row first count (addresses_of (entry_in old) v) then None else entry_in old v)
  pub gone : List ℕ
  pub each_once : NoneTwice gone
  pub gone_are : (v : ℕ) → is_one_of gone v ≡ is_in_row first count (addresses_of (entry_in old) v)
  pub counted : taken.count ≡ length gone
  pub few : taken.count ≤ count
  pub least : (v : ℕ) → is_one_of gone v ≡ true → IsAtMost taken.least v
