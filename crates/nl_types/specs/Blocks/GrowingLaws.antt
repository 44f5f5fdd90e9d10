-- What clean segments behind others mean.
use Rattle.std.specs.Prelude.{◌≡◌, ℕ, ◌-◌, ◌++◌, length}
use Rattle.std.specs.List.{range_with_len}
use Rattle.nl_types.specs.Blocks.Segments.{AreTidy, IsUsed, Segments, active_place, clean_segments, grown_to, info_of}

-- of each segment, there or not, the same is known
abbrev pub InfosStay : Type 0
InfosStay = (n i : ℕ) (s : Segments) → info_of (grown_to n s).each i ≡ info_of s.each i

abbrev pub UsedStays : Type 0
UsedStays =
    (n b : ℕ) (s : Segments) → (IsUsed s b → IsUsed (grown_to n s) b) × (IsUsed (grown_to n s) b → IsUsed s b)

abbrev pub TidyStays : Type 0
TidyStays = (n : ℕ) (s : Segments) → AreTidy s → AreTidy (grown_to n s)

abbrev pub ActiveStays : Type 0
ActiveStays = (n : ℕ) (s : Segments) → active_place (grown_to n s) ≡ active_place s

-- the new ones are clean, behind those that were
abbrev pub CleanGrow : Type 0
CleanGrow = (n : ℕ) (s : Segments)
    → clean_segments (grown_to n s) ≡ clean_segments s ++ range_with_len (length s.each) (n - length s.each)
