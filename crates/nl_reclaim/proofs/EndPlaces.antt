-- Lists of ends, place by place.
use Rattle.std.proofs.Common.{◌≡◌, ℕ, zero, suc, ◌+◌, ◌-◌, ◌<◌, ◌≤◌, Bool, true, false, List, [], ◌∷◌, ◌++◌, length, get_or, take, append_assoc, Option, Some, None, inl, inr, sym, refl, ap, ◌∙◌, arith}
use Rattle.std.specs.Prelude.{◌||◌}
use Rattle.std.specs.List.Sorted.{IsNonDecreasingBy}
use Rattle.std.proofs.lemmas.Bool.{cases_Bool, eqb-true, eq-eqb, or_left, or_right}
use Rattle.std.proofs.lemmas.List.{get_or_default, take_more}
use Rattle.nl_reclaim.specs.declared.ends.Ended.{Ended}
use Rattle.nl_reclaim.specs.EndLists.{end_at, end_of, no_end, noted_ends, with_end}
use Rattle.nl_reclaim.specs.PrivateCounts.Listed.{is_listed, is_number}

pub same_bool : (a b : Bool) → (a ≡ true → b ≡ true) → (b ≡ true → a ≡ true) → a ≡ b
same_bool true b there back = sym (there refl)
same_bool false true there back = back refl
same_bool false false there back = refl

pub no-number : {X : Type 0} (v : ℕ) → ◌≡◌ {A = Option ℕ} None (Some v) → X
no-number v wrong = absurd (let no : ◌≡◌ {A = Option ℕ} None (Some v) = wrong in cc)

-- what stands at a place stands in the list
pub in-list : (ends : List Ended) (k v : ℕ) → (end_at ends k).number ≡ Some v → k < length ends
in-list [] k v is = no-number v is
in-list (e ∷ ends) zero v is = omega arith
in-list (e ∷ ends) (suc k) v is = let rest = in-list ends k v is in omega arith

pub rising-from : (ends : List Ended)
    → ((k j : ℕ) → k ≤ j → j < length ends → (end_at ends k).end ≤ (end_at ends j).end)
    → IsNonDecreasingBy end_of ends
rising-from ends rises k j d order low =
    let one = ap end_of (get_or_default ends k d no_end (omega (arith, order, low))) in
    let two = ap end_of (get_or_default ends j d no_end low) in
    let rise = rises k j order low in
    omega (arith, one, two, rise)

-- ---- listed numbers

number-of : (v : ℕ) (o : Option ℕ) → is_number v o ≡ true → o ≡ Some v
number-of v None is = cc
number-of v (Some w) is = ap Some (sym (eqb-true v w is))

of-number : (v : ℕ) (o : Option ℕ) → o ≡ Some v → is_number v o ≡ true
of-number v o is = ap (is_number v) is ∙ eq-eqb v v refl

-- what is listed stands at a place
pub listed-place : (ends : List Ended) (v : ℕ) → is_listed ends v ≡ true
    → (k : ℕ) × ((end_at ends k).number ≡ Some v)
listed-place [] v is = cc
listed-place (e ∷ ends) v is = elim (cases_Bool (is_number v e.number)) [
  | inl here ↦ (0, number-of v e.number here)
  | inr other ↦
      let rest = listed-place ends v (sym (ap (λ b. b || is_listed ends v) other) ∙ is) in
      (suc rest.0, rest.1)
]

-- and what stands at a place is listed
pub place-listed : (ends : List Ended) (k v : ℕ) → (end_at ends k).number ≡ Some v → is_listed ends v ≡ true
place-listed [] k v is = no-number v is
place-listed (e ∷ ends) zero v is =
    or_left (is_number v e.number) (is_listed ends v) (of-number v e.number is)
place-listed (e ∷ ends) (suc k) v is =
    or_right (is_number v e.number) (is_listed ends v) (place-listed ends k v is)

-- ---- one list behind another

pub in-front : (xs ys : List Ended) (k : ℕ) → k < length xs → end_at (xs ++ ys) k ≡ end_at xs k
in-front [] ys k low = absurd (omega arith)
in-front (x ∷ xs) ys zero low = refl
in-front (x ∷ xs) ys (suc k) low = in-front xs ys k (omega arith)

pub past-front : (xs ys : List Ended) (k : ℕ) → length xs ≤ k
    → end_at (xs ++ ys) k ≡ end_at ys (k - length xs)
past-front [] ys k past = let same : k ≡ k - 0 = omega arith in ap (end_at ys) same
past-front (x ∷ xs) ys zero past = absurd (omega arith)
past-front (x ∷ xs) ys (suc k) past =
    let same : k - length xs ≡ suc k - suc (length xs) = omega arith in
    past-front xs ys k (omega arith) ∙ ap (end_at ys) same

-- one number more is noted
pub noted-more : (before : List Ended) (c : ℕ) (numbers : List ℕ) (i v : ℕ) → i < length numbers
    → v ≡ get_or numbers i 0
    → (before ++ noted_ends c (take i numbers)) ++ with_end c v ∷ []
    ≡ before ++ noted_ends c (take (i + 1) numbers)
noted-more before c numbers i v low is =
    append_assoc before (noted_ends c (take i numbers)) (with_end c v ∷ [])
    ∙ ap (λ (ends : List Ended). before ++ ends) (
    ap (λ (n : ℕ). noted_ends c (take i numbers) ++ with_end c n ∷ []) is
    ∙ sym (noted-append (take i numbers))
    ∙ ap (noted_ends c) (sym (take_more numbers i 0 low))
    )
  where
    noted-append : (xs : List ℕ)
        → noted_ends c (xs ++ get_or numbers i 0 ∷ [])
        ≡ noted_ends c xs ++ with_end c (get_or numbers i 0) ∷ []
    noted-append [] = refl
    noted-append (x ∷ xs) = ap (λ (ends : List Ended). with_end c x ∷ ends) (noted-append xs)
