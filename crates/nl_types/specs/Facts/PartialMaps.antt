-- Laws of finite changes.
use Rattle.std.proofs.Common.{◌≡◌, ℕ, zero, suc, ◌<◌, get_or, Bool, true, false, eqb, List, [], ◌∷◌, Some, None, inl, inr, sym, refl, ap, ◌∙◌, length, arith}
use Rattle.std.specs.Option.{option_map}
use Rattle.std.specs.Prelude.{◌||◌}
use Rattle.std.proofs.lemmas.Bool.{cases_Bool, eqb-true, eq-eqb}
use Rattle.nl_types.specs.Plain.NumberLists.{is_one_of, NoneTwice}
use Rattle.nl_types.specs.Blocks.PartialMaps.{Partial, put, put_each, adjust, Stands, Keeps}

-- functions that agree at each number are equal
pub same_at_all : {X : Type 0} (m n : Partial X) → ((q : ℕ) → m q ≡ n q) → m ≡ n
same_at_all m n h = λ i. λ q. h q i

pub adjust-some : {X : Type 0} (f : X → X) (m : Partial X) (k : ℕ) (x : X) → m k ≡ Some x
    → adjust f m k ≡ put m k (f x)
adjust-some f m k x h = same_at_all _ _ (λ q. elim (cases_Bool (eqb q k)) [
  | inl e ↦ rw e (ap (option_map f) (ap m (eqb-true q k e) ∙ h))
  | inr e ↦ rw e refl
])

pub adjust-none : {X : Type 0} (f : X → X) (m : Partial X) (k : ℕ) → m k ≡ None → adjust f m k ≡ m
adjust-none f m k h = same_at_all _ _ (λ q. elim (cases_Bool (eqb q k)) [
  | inl e ↦ rw e (ap (option_map f) (ap m (eqb-true q k e) ∙ h) ∙ sym (ap m (eqb-true q k e) ∙ h))
  | inr e ↦ rw e refl
])

pub put-same : {X : Type 0} (m : Partial X) (k : ℕ) (x : X) → put m k x k ≡ Some x
put-same m k x = rw (eq-eqb k k refl) refl

pub put-other : {X : Type 0} (m : Partial X) (k q : ℕ) (x : X) → eqb q k ≡ false → put m k x q ≡ m q
put-other m k q x h = rw h refl

pub or_false : (a b : Bool) → (a || b) ≡ false → (a ≡ false) × (b ≡ false)
or_false false b h = (refl, h)
or_false true b h = cc

-- a number that is not among the keys keeps what it has
pub put_each-others : {A X : Type 0} (value : A → X) (ks : List ℕ) (xs : List A) (m : Partial X) (q : ℕ)
    → is_one_of ks q ≡ false → put_each (λ k. k) value ks xs m q ≡ m q
put_each-others value [] xs m q h = refl
put_each-others value (k ∷ ks) [] m q h = refl
put_each-others value (k ∷ ks) (x ∷ xs) m q h =
    put_each-others value ks xs (put m k (value x)) q (or_false _ _ h).1
    ∙ put-other m k q (value x) (or_false _ _ h).0

-- what is put at numbers that differ stands there
pub put_each-Stands : {X : Type 0} (ks : List ℕ) (xs : List X) (m : Partial X) → NoneTwice ks
    → length ks ≡ length xs → Stands (put_each (λ k. k) (λ x. x) ks xs m) ks xs
put_each-Stands [] [] m apart len = tt
put_each-Stands [] (x ∷ xs) m apart len = omega arith
put_each-Stands (k ∷ ks) [] m apart len = omega arith
put_each-Stands (k ∷ ks) (x ∷ xs) m apart len = (
  put_each-others (λ x. x) ks xs (put m k x) k apart.0 ∙ put-same m k x,
  put_each-Stands ks xs (put m k x) apart.1 (omega arith),
)

-- what is put where nothing stood keeps the rest
pub put_each-Keeps : {X : Type 0} (ks : List ℕ) (xs : List X) (m : Partial X)
    → ((q : ℕ) → is_one_of ks q ≡ true → m q ≡ None) → Keeps m (put_each (λ k. k) (λ x. x) ks xs m)
put_each-Keeps ks xs m unused q x h = elim (cases_Bool (is_one_of ks q)) [
  | inl e ↦ let none : m q ≡ None = unused q e in cc
  | inr e ↦ put_each-others (λ x. x) ks xs m q e ∙ h
]

-- an element is one of the list's
pub is_one_of-get_or : (ks : List ℕ) (i d : ℕ) → i < length ks → is_one_of ks (get_or ks i d) ≡ true
is_one_of-get_or [] i d within = absurd (omega arith)
is_one_of-get_or (k ∷ ks) zero d within = rw (eq-eqb k k refl) refl
is_one_of-get_or (k ∷ ks) (suc i) d within =
    or_true (eqb (get_or ks i d) k) (is_one_of-get_or ks i d (omega arith))
  where
    or_true : (a : Bool) {b : Bool} → b ≡ true → (a || b) ≡ true
    or_true false h = h
    or_true true h = refl
