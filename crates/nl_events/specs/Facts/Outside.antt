-- Where there is no segment, nothing is needed, nothing has payload and nothing is emptied.
use Rattle.std.proofs.Common.{◌≡◌, ℕ, ◌+◌, ◌-◌, ◌*◌, ◌<◌, ◌≤◌, Bool, true, ◌||◌, List, [], ◌∷◌, Option, Some, None, Result, Ok, Err, slice_get, inl, inr, length, refl, sym, ap, subst, ◌∙◌, arith}
use Rattle.std.proofs.lemmas.Bool.{eq-eqb}
use Rattle.std.proofs.lemmas.List.{get_or_past}
use Rattle.std.proofs.lemmas.Option.{slice_get_cases}
use Rattle.std.specs.Option.{ok_or}
use Rattle.nl_types.specs.declared.error.VolError.{VolError}
use Rattle.nl_types.specs.declared.error.VolError.TheVariants.{BadRange}
use Rattle.nl_types.specs.declared.segment.SegmentInfo.{SegmentInfo}
use Rattle.nl_types.specs.Blocks.Segments.{Segments, clean_info, info_of}
use Rattle.nl_types.specs.Blocks.Entries.{Entry}
use Rattle.nl_types.specs.Plain.NumberLists.{is_one_of}
use Rattle.nl_vstore.specs.Located.{needed_count, needed_in, payload_block, payload_count_in, picked}
use Rattle.nl_vstore.specs.Stores.{IsStore, Store, address_in, is_inside}
use Rattle.nl_reclaim.specs.Cleaning.{freed_by, judged_info, retired}
use Rattle.nl_vstore.specs.Facts.NumberAt.{inside-high, inside-low, needed-inside}
use Rattle.nl_dat.specs.Facts.Positions.{position-used}

unused-outside : (s : Store) (segment : ℕ) → length s.segments.each ≤ segment
    → (info_of s.segments.each segment).used ≡ 0
unused-outside s segment past =
    ap (λ (i : SegmentInfo). i.used) (get_or_past s.segments.each segment clean_info past)

none-needed : (s : Store) (needed : Entry → Bool) (segment : ℕ) → IsStore s → length s.segments.each ≤ segment
    → needed_in s needed segment ≡ []
none-needed s needed segment store past = none (needed_in s needed segment) refl
  where
    nowhere : (v : ℕ) (o : Option ℕ) → address_in s v ≡ o → is_inside s.segments segment o ≡ true → ⊥
    nowhere v None at inside = cc
    nowhere v (Some b) at inside =
        let low : segment * s.segments.blocks ≤ b = inside-low s.segments segment b inside in
        let high : b < segment * s.segments.blocks + s.segments.blocks =
        inside-high s.segments segment b inside in
        let used : b - segment * s.segments.blocks < (info_of s.segments.each segment).used =
        position-used s.segments segment (b - segment * s.segments.blocks) b store.limits.tidy
        (store.used v b at) (omega (arith, low)) (omega (arith, low, high)) in
        absurd (omega (arith, used, unused-outside s segment past))

    none : (vs : List ℕ) → needed_in s needed segment ≡ vs → needed_in s needed segment ≡ []
    none [] is = is
    none (v ∷ vs) is =
        absurd (nowhere v (address_in s v) refl (needed-inside s needed segment v
        (subst (λ (l : List ℕ). is_one_of l v ≡ true) (sym is)
        (ap (λ (t : Bool). t || is_one_of vs v) (eq-eqb v v refl)))))

pub needed-outside : (s : Store) (needed : Entry → Bool) (segment : ℕ) → IsStore s
    → length s.segments.each ≤ segment → 0 ≡ needed_count s needed segment
needed-outside s needed segment store past =
    ap (λ (vs : List ℕ). length vs) (sym (none-needed s needed segment store past))

pub payload-outside : (s : Store) (segment : ℕ) → length s.segments.each ≤ segment
    → 0 ≡ payload_count_in s segment
payload-outside s segment past =
    sym (ap (λ (n : ℕ). length (picked (payload_block s) (segment * s.segments.blocks) n))
    (unused-outside s segment past))

-- a segment of which nothing is known
pub no-segment : (s t : Segments) (segment : ℕ) (r : Result SegmentInfo VolError) (e : VolError) → t ≡ s
    → r ≡ Err e → r ≡ ok_or (slice_get t.each segment) BadRange → length s.each ≤ segment
no-segment s t segment r e is refused shown = elim (slice_get_cases s.each segment).1 [
  | inl there ↦
      let found : slice_get t.each segment ≡ Some there.0 =
      ap (λ (u : Segments). slice_get u.each segment) is ∙ there.2 in
      absurd
      (not-found there.0 (sym refused ∙ shown ∙ ap (λ (o : Option SegmentInfo). ok_or o BadRange) found))
  | inr past ↦ past.0
]
  where
    not-found : (info : SegmentInfo) → ◌≡◌ {A = Result SegmentInfo VolError} (Err e) (Ok info) → ⊥
    not-found info h = cc

-- a segment that is emptied is there
pub retired-inside : (s : Store) (needed : Entry → Bool) (segment count : ℕ)
    → retired s needed segment ≡ Ok count
    → segment < length s.segments.each
retired-inside s needed segment count is = elim (slice_get_cases s.segments.each segment).1 [
  | inl there ↦ there.1
  | inr past ↦
      let refused : ◌≡◌ {A = Result ℕ VolError} (Err BadRange) (Ok count) =
      sym (ap (λ (o : Option SegmentInfo). freed_by (judged_info o) s needed segment) past.1) ∙ is in cc
]
