-- A list without the first n of what is picked.
use Rattle.std.proofs.Common.{◌≡◌, ◌==◌, ◌||◌, ℕ, zero, suc, Bool, true, false, cond, List, [], ◌∷◌, take, drop, Option, None, Some, refl, sym, ap, ◌∙◌, true≢false}
use Rattle.std.proofs.lemmas.Bool.{eq-eqb, eqb-false, ne_eqb}
use Rattle.nl_types.specs.Plain.NumberLists.{is_one_of, NoneTwice}
use Rattle.nl_vstore.specs.Located.{onto, pick}

abbrev pub unless : List ℕ → Option ℕ → Option ℕ
unless gone None = None
unless gone (Some v) = cond (is_one_of gone v) None (Some v)

abbrev pub without : List ℕ → List (Option ℕ) → List (Option ℕ)
without gone [] = []
without gone (o ∷ os) = unless gone o ∷ without gone os

pub nothing_gone : (os : List (Option ℕ)) → pick (without [] os) ≡ pick os
nothing_gone [] = refl
nothing_gone (None ∷ os) = nothing_gone os
nothing_gone (Some v ∷ os) = ap (λ (vs : List ℕ). v ∷ vs) (nothing_gone os)

-- what is nowhere among the rest may be left out of the numbers that go
not_there : (os : List (Option ℕ)) (v : ℕ) (gone : List ℕ) → is_one_of (pick os) v ≡ false
    → pick (without (v ∷ gone) os) ≡ pick (without gone os)
not_there [] v gone none = refl
not_there (None ∷ os) v gone none = not_there os v gone none
not_there (Some w ∷ os) v gone none =
    let other : (w == v) ≡ false = differ v w (first_false (v == w) (is_one_of (pick os) v) none) in
    let rest = not_there os v gone (second_false (v == w) (is_one_of (pick os) v) none) in
    both (w == v) (is_one_of gone w) w other rest
  where
    first_false : (a b : Bool) → (a || b) ≡ false → a ≡ false
    first_false true b e = e
    first_false false b e = refl

    second_false : (a b : Bool) → (a || b) ≡ false → b ≡ false
    second_false true b e = absurd (true≢false e)
    second_false false b e = e

    differ : (x y : ℕ) → (x == y) ≡ false → (y == x) ≡ false
    differ x y e = ne_eqb y x (λ same. eqb-false x y e (sym same))

    both : (a b : Bool) (w : ℕ) {xs ys : List ℕ} → a ≡ false → xs ≡ ys
        → onto (cond (a || b) None (Some w)) xs ≡ onto (cond b None (Some w)) ys
    both true b w e same = absurd (true≢false e)
    both false true w e same = same
    both false false w e same = ap (λ (vs : List ℕ). w ∷ vs) same

-- the first n that are picked go, and what is left is the rest
pub moved_out : (os : List (Option ℕ)) (n : ℕ) → NoneTwice (pick os)
    → pick (without (take n (pick os)) os) ≡ drop n (pick os)
moved_out [] zero once = refl
moved_out [] (suc n) once = refl
moved_out (None ∷ os) n once = moved_out os n once
moved_out (Some v ∷ os) zero once = nothing_gone (Some v ∷ os)
moved_out (Some v ∷ os) (suc n) once =
    first (v == v) (is_one_of (take n (pick os)) v) v (equal v)
    (not_there os v (take n (pick os)) once.0 ∙ moved_out os n once.1)
  where
    first : (a b : Bool) (w : ℕ) {xs ys : List ℕ} → a ≡ true → xs ≡ ys
        → onto (cond (a || b) None (Some w)) xs ≡ ys
    first true b w e same = same
    first false b w e same = absurd (true≢false (sym e))

    equal : (x : ℕ) → (x == x) ≡ true
    equal x = eq-eqb x x refl
