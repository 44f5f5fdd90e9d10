-- The blocks of numbers that are moved.
use Rattle.std.proofs.Common.{◌≡◌, ℕ, Bool, true, false, eqb, List, [], ◌∷◌, Some, None, Option, inl, inr, sym, refl, ap, ◌∙◌, length, is_some, arith}
use Rattle.std.specs.Prelude.{◌||◌}
use Rattle.std.specs.List.{AllByRecursion}
use Rattle.std.specs.Option.{option_map}
use Rattle.std.proofs.lemmas.Bool.{cases_Bool, or_cases}
use Rattle.nl_types.specs.Plain.NumberLists.{is_one_of}
use Rattle.nl_types.specs.Blocks.PartialMaps.{Partial, adjust, adjust_each}
use Rattle.nl_vstore.specs.Stores.{is_inside, moved_to}

-- a number that is moved has one of the new blocks
pub moved-in : (P : ℕ → Type 0) (ks bs : List ℕ) (m : Partial ℕ) (v : ℕ) → length ks ≡ length bs
    → AllByRecursion P bs → is_one_of ks v ≡ true → is_some (m v) ≡ true
    → (b : ℕ) × (adjust_each moved_to ks bs m v ≡ Some b) × P b
moved-in P [] bs m v len all among some = cc
moved-in P (k ∷ ks) [] m v len all among some = absurd (omega (arith, len))
moved-in P (k ∷ ks) (a ∷ bs) m v len all among some = elim (cases_Bool (is_one_of ks v)) [
  | inl later ↦
      moved-in P ks bs (adjust (moved_to a) m k) v (omega (arith, len)) all.1 later
      (elim (cases_Bool (eqb v k)) [
        | inl e ↦ rw e (is_some-moved (m v) some)
        | inr e ↦ rw e some
      ])
  | inr last ↦ elim (or_cases (eqb v k) (is_one_of ks v) among) [
    | inl e ↦ (a, others ks bs (adjust (moved_to a) m k) last ∙ rw e (here (m v) some), all.0)
    | inr e ↦ absurd (both e last)
  ]
]
  where
    both : {t : Bool} → t ≡ true → t ≡ false → ⊥
    both e f = cc

    is_some-moved : (o : Option ℕ) → is_some o ≡ true → is_some (option_map (moved_to a) o) ≡ true
    is_some-moved None h = cc
    is_some-moved (Some x) h = refl

    here : (o : Option ℕ) → is_some o ≡ true → option_map (moved_to a) o ≡ Some a
    here None h = cc
    here (Some x) h = refl

    others : (js cs : List ℕ) (n : Partial ℕ) → is_one_of js v ≡ false → adjust_each moved_to js cs n v ≡ n v
    others [] cs n none = refl
    others (j ∷ js) [] n none = refl
    others (j ∷ js) (c ∷ cs) n none = elim (cases_Bool (eqb v j)) [
      | inl e ↦ absurd (both (ap (λ t. t || is_one_of js v) e) none)
      | inr e ↦
          others js cs (adjust (moved_to c) n j) (sym (ap (λ t. t || is_one_of js v) e) ∙ none) ∙ rw e refl
    ]

pub is_some-inside : (s : Rattle.nl_types.specs.Blocks.Segments.Segments) (segment : ℕ) (o : Option ℕ)
    → is_inside s segment o ≡ true → is_some o ≡ true
is_some-inside s segment None h = cc
is_some-inside s segment (Some b) h = refl
