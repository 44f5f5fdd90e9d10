-- What an image is beside a sum that was saved.
use Rattle.std.specs.Prelude.{◌≡◌, ◌⊎◌, ℕ, Bool, ◌&&◌, ◌==◌, not, if◌then◌else◌, List, [], filter, length, Option, None, Some, slice_get}
use Rattle.std.specs.List.{range_with_len}
use Rattle.std.specs.Str.{bytes_eq}
use Rattle.nl_damage.specs.declared.sums.digests.Digest.{Digest}
use Rattle.nl_damage.specs.declared.sums.sum.Save.{Save}
use Rattle.nl_damage.specs.declared.sums.sum.Sum.{Sum}
use Rattle.nl_damage.specs.declared.sums.comparing.Comparison.{Comparison}
use Rattle.nl_damage.specs.declared.sums.comparing.Comparison.TheVariants.{Same, OtherSave, Differs}
use Rattle.nl_damage.specs.ImageSums.{IsImageSum}
use Rattle.nl_damage.specs.SumTexts.{IsPrinted}

abbrev pub is_same_digest : Digest → Digest → Bool
is_same_digest one other = bytes_eq one.digits other.digits

-- all is the same that tells a save
unfoldable pub is_one_save : Save → Save → Bool
is_one_save one other =
    (one.bytes == other.bytes && (one.segments == other.segments && one.blocks == other.blocks))
    && ((one.checkpoints == other.checkpoints && one.latest == other.latest)
    && is_same_digest one.tables other.tables)

abbrev pub digits_in : Option Digest → List ℕ
digits_in None = []
digits_in (Some digest) = digest.digits

abbrev pub digits_at : List Digest → (place : ℕ) → List ℕ
digits_at digests place = digits_in (slice_get digests place)

abbrev pub differs_at : List Digest → List Digest → (place : ℕ) → Bool
differs_at one other place = not (bytes_eq (digits_at one place) (digits_at other place))

-- the places at which digests differ, ascending
abbrev pub differing : List Digest → List Digest → List ℕ
differing one other = filter (differs_at one other) (range_with_len 0 (length one))

-- Another save; else the same bytes; else the segments whose bytes differ.
abbrev pub comparison_of : (saved present : Sum) → Comparison
comparison_of saved present =
    if is_one_save saved.save present.save
    then (if is_same_digest saved.whole present.whole then Same
    else Differs (differing saved.segments present.segments))
    else OtherSave

-- ---- an image beside a text

-- bytes that have no sum are of another save
abbrev pub IsBeside : List ℕ → Sum → Comparison → Type 0
IsBeside image saved comparison =
    ((present : Sum) × IsImageSum image present × (comparison ≡ comparison_of saved present))
    ⊎ (((present : Sum) → IsImageSum image present → ⊥) × (comparison ≡ OtherSave))

-- what the image is beside the sum that is printed so; none where no sum is
abbrev pub IsBesideText : (image text : List ℕ) → Option Comparison → Type 0
IsBesideText image text None = (saved : Sum) → IsPrinted saved text → ⊥
IsBesideText image text (Some comparison) =
    (saved : Sum) × IsPrinted saved text × IsBeside image saved comparison

-- ---- segments that differ

abbrev pub differing_in : Comparison → List ℕ
differing_in (Differs segments) = segments
differing_in comparison = []

abbrev pub differing_told : Option Comparison → List ℕ
differing_told None = []
differing_told (Some comparison) = differing_in comparison

-- no segment of the image differs from the sum
abbrev pub NoneDiffer : (image : List ℕ) → Sum → Type 0
NoneDiffer image saved =
    (present : Sum) → IsImageSum image present → differing_in (comparison_of saved present) ≡ []

-- nor from the one that is printed so
abbrev pub NoneDifferFrom : (image text : List ℕ) → Type 0
NoneDifferFrom image text = (saved : Sum) → IsPrinted saved text → NoneDiffer image saved
