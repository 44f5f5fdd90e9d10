-- Where checkpoints lie, and which of them stay.
use Rattle.std.specs.Prelude.{ℕ, Bool, false, not, nat_le, nat_lt, List, Option, None, Some}
use Rattle.std.specs.List.{filter, find, list_any}
use Rattle.std.specs.Option.{option_map}
use Rattle.nl_types.specs.Plain.Protection as protection
use Rattle.nl_types.specs.Plain.Rows.{is_snapshot}
use Rattle.nl_cpfile.specs.declared.checkpoint.Checkpoint.{Checkpoint}
use Rattle.nl_cpfile.specs.Tables.{checkpoint_row}

abbrev pub is_from : ℕ → Checkpoint → Bool
is_from first c = nat_le first c.number

abbrev pub is_before : ℕ → Checkpoint → Bool
is_before end c = nat_lt c.number end

abbrev pub is_protected : (now period : ℕ) → Checkpoint → Bool
is_protected now period c = protection.is_protected now period (checkpoint_row c)

-- the number of the first one that a period protects
abbrev pub first_protected : (now period : ℕ) → List Checkpoint → Option ℕ
first_protected now period kept =
    option_map (λ (c : Checkpoint). c.number) (find (is_protected now period) kept)

abbrev pub is_plain : Checkpoint → Bool
is_plain c = not (is_snapshot c.mode)

-- the number of the first one that is no snapshot
abbrev pub first_plain : List Checkpoint → Option ℕ
first_plain kept = option_map (λ (c : Checkpoint). c.number) (find is_plain kept)

abbrev pub is_staying : (below : ℕ) → Checkpoint → Bool
is_staying below c = protection.is_staying below (checkpoint_row c)

-- whether one of those from a first number on and before an end stays
abbrev pub stays_within : (below start end : ℕ) → List Checkpoint → Bool
stays_within below start end kept =
    list_any (is_staying below) (filter (is_from start) (filter (is_before end) kept))

-- the number of the first one that stays
abbrev pub first_staying : (below : ℕ) → List Checkpoint → Option ℕ
first_staying below kept = option_map (λ (c : Checkpoint). c.number) (find (is_staying below) kept)

-- whether there is an end, no later than with a checkpoint
abbrev pub has_ended_by : ℕ → Option ℕ → Bool
has_ended_by n None = false
has_ended_by n (Some end) = nat_le end n
