-- A segment that is taken before its log is written.
use Rattle.std.proofs.Common.{◌≡◌, ℕ, zero, suc, ◌⊎◌, inl, inr, List, [], ◌∷◌, set, Some, refl, ap, ◌∙◌}
use Rattle.std.specs.Prelude.{slice_get}
use Rattle.nl_types.specs.declared.segment.Position.{Position}
use Rattle.nl_types.specs.declared.segment.SegmentInfo.{SegmentInfo}
use Rattle.nl_types.specs.declared.segment.SegmentState.TheVariants.{Active, Error}
use Rattle.nl_types.specs.Blocks.Segments.{Segments, at_rest, none_active, info_of, clean_info, clean_segments, active_place, lowest_clean, with_active, with_error, AreTidy}
use Rattle.nl_types.specs.Facts.SegmentChanges.{active-at_rest, info_same, tidy_at}
use Rattle.nl_types.specs.Facts.NextLogs.{HasLowest, has_lowest}

rest_again : (info : SegmentInfo) → at_rest (at_rest info) ≡ at_rest info
rest_again info = rw (active-at_rest info) refl

none_active_again : (infos : List SegmentInfo) → none_active (none_active infos) ≡ none_active infos
none_active_again [] = refl
none_active_again (info ∷ infos) =
    rw (active-at_rest info) (ap (λ (rest : List SegmentInfo). at_rest info ∷ rest) (none_active_again infos))

-- what one segment becomes hides what it was
changed_again : (infos : List SegmentInfo) (k : ℕ) (a b : SegmentInfo)
    → set (none_active (set (none_active infos) k a)) k b ≡ set (none_active infos) k b
changed_again [] k a b = refl
changed_again (info ∷ infos) zero a b = ap (λ (rest : List SegmentInfo). b ∷ rest) (none_active_again infos)
changed_again (info ∷ infos) (suc k) a b =
    rw (active-at_rest info)
    (ap (λ (rest : List SegmentInfo). at_rest info ∷ rest) (changed_again infos k a b))

pub active_again : (s : Segments) (k stamp used stamp2 used2 : ℕ)
    → with_active (with_active s k stamp used) k stamp2 used2 ≡ with_active s k stamp2 used2
active_again s k stamp used stamp2 used2 =
    ap (λ (each : List SegmentInfo). let t : Segments = record s { each = each } in t)
    (changed_again s.each k _ _)

-- the lowest clean segment of a table
clean_at : (clean : List ℕ) (segment : ℕ) → slice_get clean 0 ≡ Some segment
    → (rest : List ℕ) × (clean ≡ segment ∷ rest)
clean_at [] segment e = absurd (cc)
clean_at (j ∷ rest) segment e = (rest, (let same : j ≡ segment = cc in ap (λ (k : ℕ). k ∷ rest) same))

pub lowest_has : (s : Segments) (segment : ℕ) → AreTidy s → lowest_clean s ≡ Some segment
    → HasLowest s segment
lowest_has s segment tidy e =
    let c = clean_at (clean_segments s) segment e in has_lowest s segment c.0 tidy c.1

pub error_again : (s : Segments) (k : ℕ) → AreTidy s → HasLowest s k
    → with_error (with_active s k 0 0) k ≡ with_error s k
error_again s k tidy low =
    let taken : SegmentInfo = record { state = Active; stamp = 0; used = 0 } in
    let here : info_of (set (none_active s.each) k taken) k ≡ taken = info_same s.each k taken low.within in
    let clean : info_of s.each k ≡ clean_info = (tidy_at s.blocks s.each tidy.each k).clean low.clean in
    let failed : record (info_of (set (none_active s.each) k taken) k) { state = Error }
    ≡ record (info_of s.each k) { state = Error } =
    rw (here, clean) refl in
    ap (λ (each : List SegmentInfo). let t : Segments = record s { each = each } in t)
    (changed_again s.each k taken _ ∙ ap (λ (x : SegmentInfo). set (none_active s.each) k x) failed)

-- a segment that is active is not the lowest clean one
pub active_or_lowest : (s : Segments) (place : Position) → AreTidy s → (active_place s ≡ Some place → ⊥)
    → (active_place s ≡ Some place) ⊎ (lowest_clean s ≡ Some place.segment)
    → lowest_clean s ≡ Some place.segment
active_or_lowest s place tidy not (inl e) = absurd (not e)
active_or_lowest s place tidy not (inr e) = e
