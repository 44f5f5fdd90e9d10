-- What a caller's array gets.
use Rattle.std.specs.Prelude.{ℕ, ◌+◌, Bool, true, false, if◌then◌else◌, List, ◌++◌, length, take, drop, min}
use Rattle.nl_types.specs.declared.row.Row.{Row}
use Rattle.nl_types.specs.Plain.Rows.{is_snapshot}
use Rattle.nl_c.specs.declared.copying.CheckpointRow.{CheckpointRow}

-- as many of these as the array has places for
abbrev pub fitting : {A B : Type 0} → (array : List A) → (items : List B) → ℕ
fitting array items = min (length array) (length items)

-- the array, with those at its beginning
abbrev pub filled : {A : Type 0} → (array items : List A) → List A
filled array items = take (fitting array items) items ++ drop (fitting array items) array

-- 1 for a snapshot, and 2 for a minor checkpoint
abbrev pub flags_of : Row → ℕ
flags_of row = (if is_snapshot row.mode then 1 else 0) + (if row.minor then 2 else 0)

abbrev pub row_told : Row → CheckpointRow
row_told row = record { number = row.number; stamp = row.stamp; inodes = row.inodes; flags = flags_of row }
