-- The first needed numbers of a segment.
use Rattle.std.proofs.Common.{◌≡◌, ℕ, zero, suc, ◌<◌, true, false, eqb, get_or, take, List, [], ◌∷◌, length, inl, inr, sym, refl, ap, ◌∙◌, arith}
use Rattle.std.specs.Prelude.{◌||◌}
use Rattle.std.proofs.lemmas.Bool.{cases_Bool, eq-eqb, or_left, or_right}
use Rattle.nl_types.specs.Plain.NumberLists.{NoneTwice, is_one_of}
use Rattle.nl_vstore.specs.Counts.{NeededStandOnce, StandOnce}
use Rattle.nl_vstore.specs.Located.{needed_in}
use Rattle.nl_reclaim.specs.Laws.{FirstNeededStandThere}

among-all : (n : ℕ) (numbers : List ℕ) (v : ℕ) → is_one_of (take n numbers) v ≡ true
    → is_one_of numbers v ≡ true
among-all zero numbers v among = cc
among-all (suc n) [] v among = cc
among-all (suc n) (k ∷ numbers) v among = elim (cases_Bool (eqb v k)) [
  | inl here ↦ or_left (eqb v k) (is_one_of numbers v) here
  | inr other ↦
      or_right (eqb v k) (is_one_of numbers v)
      (among-all n numbers v (sym (ap (λ t. t || is_one_of (take n numbers) v) other) ∙ among))
]

take-once : (n : ℕ) (numbers : List ℕ) → NoneTwice numbers → NoneTwice (take n numbers)
take-once zero numbers once = tt
take-once (suc n) [] once = tt
take-once (suc n) (k ∷ numbers) once = (
  elim (cases_Bool (is_one_of (take n numbers) k)) [
    | inl among ↦ absurd (let wrong : false ≡ true = sym once.0 ∙ among-all n numbers k among in cc)
    | inr none ↦ none
  ],
  take-once n numbers once.1,
)

among-at : (numbers : List ℕ) (i d : ℕ) → i < length numbers → is_one_of numbers (get_or numbers i d) ≡ true
among-at [] i d low = absurd (omega arith)
among-at (k ∷ numbers) zero d low = or_left (eqb k k) (is_one_of numbers k) (eq-eqb k k refl)
among-at (k ∷ numbers) (suc i) d low =
    or_right (eqb (get_or numbers i d) k) (is_one_of numbers (get_or numbers i d))
    (among-at numbers i d (omega arith))

pub first-needed-stand-there : NeededStandOnce → FirstNeededStandThere
first-needed-stand-there stand s needed segment limit = record {
  once = take-once limit (needed_in s needed segment) all.once;
  inside = λ i d low. all.inside (get_or (take limit (needed_in s needed segment)) i d) (among i d low);
  needed = λ i d low. all.passes (get_or (take limit (needed_in s needed segment)) i d) (among i d low);
}
  where
    all : StandOnce s needed segment
    all = stand s needed segment

    among : (i d : ℕ) → i < length (take limit (needed_in s needed segment))
        → is_one_of (needed_in s needed segment) (get_or (take limit (needed_in s needed segment)) i d) ≡ true
    among i d low =
        among-all limit (needed_in s needed segment) (get_or (take limit (needed_in s needed segment)) i d)
        (among-at (take limit (needed_in s needed segment)) i d low)
