-- Segments that are grown.
use Rattle.std.proofs.Common.{◌≡◌, ℕ, zero, suc, ◌+◌, ◌-◌, Bool, true, false, cond, List, [], ◌∷◌, ◌++◌, length, replicate, Option, Some, refl, ap, sym, ◌∙◌, arith}
use Rattle.std.specs.List.{AllByRecursion, range_with_len}
use Rattle.nl_types.specs.declared.segment.Position.{Position}
use Rattle.nl_types.specs.declared.segment.SegmentInfo.{SegmentInfo}
use Rattle.nl_types.specs.Blocks.Segments.{IsTidy, active_from, clean_from, clean_info, info_of, is_active, is_clean}
use Rattle.nl_types.specs.Blocks.GrowingLaws.{ActiveStays, CleanGrow, InfosStay, TidyStays, UsedStays}

-- ---- clean segments behind others

behind : (infos : List SegmentInfo) (k i : ℕ) → info_of (infos ++ replicate k clean_info) i ≡ info_of infos i
behind [] zero i = refl
behind [] (suc k) zero = refl
behind [] (suc k) (suc i) = behind [] k i
behind (info ∷ infos) k zero = refl
behind (info ∷ infos) k (suc i) = behind infos k i

pub infos-stay : InfosStay
infos-stay n i s = behind s.each (n - length s.each) i

pub used-stays : UsedStays
used-stays n b s = (
  λ (place, at, low).
      (place, at, omega (arith, low, ap (λ (i : SegmentInfo). i.used) (infos-stay n place.segment s))),
  λ (place, at, low).
      (place, at, omega (arith, low, ap (λ (i : SegmentInfo). i.used) (infos-stay n place.segment s))),
)

all-tidy : (blocks k : ℕ) (infos : List SegmentInfo) → AllByRecursion (IsTidy blocks) infos
    → AllByRecursion (IsTidy blocks) (infos ++ replicate k clean_info)
all-tidy blocks zero [] each = tt
all-tidy blocks (suc k) [] each = (record { room = omega arith; clean = λ _. refl }, all-tidy blocks k [] tt)
all-tidy blocks k (info ∷ infos) each = (each.0, all-tidy blocks k infos each.1)

pub tidy-stays : TidyStays
tidy-stays n s tidy = record {
  each = all-tidy s.blocks (n - length s.each) s.each tidy.each;
  one_active = λ i j one other. tidy.one_active i j
      (sym (ap (λ (x : SegmentInfo). is_active x.state) (infos-stay n i s)) ∙ one)
      (sym (ap (λ (x : SegmentInfo). is_active x.state) (infos-stay n j s)) ∙ other);
}

active-behind : (infos : List SegmentInfo) (k i : ℕ)
    → active_from i (infos ++ replicate k clean_info) ≡ active_from i infos
active-behind [] zero i = refl
active-behind [] (suc k) i = active-behind [] k (suc i)
active-behind (info ∷ infos) k i =
    ap (λ (o : Option Position).
    cond (is_active info.state) (Some (record { segment = i; block = info.used })) o)
    (active-behind infos k (suc i))

pub active-stays : ActiveStays
active-stays n s = active-behind s.each (n - length s.each) 0

clean-behind : (infos : List SegmentInfo) (k i : ℕ)
    → clean_from i (infos ++ replicate k clean_info)
    ≡ clean_from i infos ++ range_with_len (i + length infos) k
clean-behind [] zero i = refl
clean-behind [] (suc k) i =
    ap (λ (xs : List ℕ). i ∷ xs) (clean-behind [] k (suc i) ∙ ap (λ a. range_with_len a k) (omega arith))
    ∙ ap (λ a. a ∷ range_with_len (i + 0 + 1) k) (omega arith)
clean-behind (info ∷ infos) k i =
    by (is_clean info.state) (clean_from (suc i) (infos ++ replicate k clean_info)) (clean_from (suc i) infos)
    (range_with_len (i + suc (length infos)) k)
    (clean-behind infos k (suc i) ∙ ap (λ a. clean_from (suc i) infos ++ range_with_len a k) (omega arith))
  where
    by : (t : Bool) (xs ys more : List ℕ) → xs ≡ ys ++ more → cond t (i ∷ xs) xs ≡ cond t (i ∷ ys) ys ++ more
    by true xs ys more h = ap (λ (xs : List ℕ). i ∷ xs) h
    by false xs ys more h = h

pub clean-grow : CleanGrow
clean-grow n s =
    clean-behind s.each (n - length s.each) 0
    ∙ ap (λ b. clean_from 0 s.each ++ range_with_len b (n - length s.each)) (omega arith)
