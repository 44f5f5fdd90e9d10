-- Lists whose keys rise.
use Rattle.std.proofs.Common.{◌≡◌, ℕ, zero, suc, ◌+◌, ◌<◌, ◌≤◌, List, [], ◌∷◌, ◌++◌, length, get_or, Some, None, refl, ap, sym, subst, ◌∙◌, arith, append_assoc}
use Rattle.std.specs.Prelude.{map, cond}
use Rattle.std.specs.List.{All, AllPairs}
use Rattle.std.specs.Ordering.{nat_cmp}
use Rattle.std.specs.FinMap.{find}
use Rattle.std.specs.Cmp.{unsigned_tied}
use Rattle.std.proofs.lemmas.Bool.{eq-eqb, ne_eqb}
use Rattle.nl_tree.specs.Became.{Rises}

module _ {X : Type 0} (key : X → ℕ) where
  pub rises-all : (low high : ℕ) (xs : List X) → Rises key low high xs → (k : ℕ) (d : X) → k < length xs
      → low ≤ key (get_or xs k d)
  rises-all low high [] r k d l = absurd (omega arith)
  rises-all low high (x ∷ xs) r zero d l = r.0
  rises-all low high (x ∷ xs) r (suc k) d l =
      let h = rises-all (key x + 1) high xs r.2 k d (omega arith) in omega (arith, h, r.0)

  pub rises-below : (low high : ℕ) (xs : List X) → Rises key low high xs → All (λ x. key x < high) xs
  rises-below low high [] r k d l = absurd (omega arith)
  rises-below low high (x ∷ xs) r zero d l = r.1
  rises-below low high (x ∷ xs) r (suc k) d l = rises-below (key x + 1) high xs r.2 k d (omega arith)

  pub rises-pairs : (low high : ℕ) (xs : List X) → Rises key low high xs → AllPairs (λ a b. key a < key b) xs
  rises-pairs low high [] r i j d lt l = absurd (omega arith)
  rises-pairs low high (x ∷ xs) r i zero d lt l = absurd (omega arith)
  rises-pairs low high (x ∷ xs) r zero (suc j) d lt l =
      let h = rises-all (key x + 1) high xs r.2 j d (omega arith) in omega (arith, h)
  rises-pairs low high (x ∷ xs) r (suc i) (suc j) d lt l =
      rises-pairs (key x + 1) high xs r.2 i j d (omega arith) (omega arith)

  pub rises-lower : (low lower high : ℕ) (xs : List X) → lower ≤ low → Rises key low high xs
      → Rises key lower high xs
  rises-lower low lower high [] l r = r
  rises-lower low lower high (x ∷ xs) l r = (omega (arith, r.0), r.1, r.2)

  pub rises-higher : (low high higher : ℕ) (xs : List X) → high ≤ higher → Rises key low high xs
      → Rises key low higher xs
  rises-higher low high higher [] l r = r
  rises-higher low high higher (x ∷ xs) l r =
      (r.0, omega (arith, r.1, l), rises-higher (key x + 1) high higher xs l r.2)

-- the same keys by another list
pub rises-map : {X Y Z : Type 0} (f : Z → X) (g : Z → Y) (key : X → ℕ) (other : Y → ℕ) (low high : ℕ)
    (zs : List Z)
    → ((z : Z) → other (g z) ≡ key (f z)) → Rises key low high (map f zs) → Rises other low high (map g zs)
rises-map f g key other low high [] e r = r
rises-map f g key other low high (z ∷ zs) e r =
    let k = e z in
    let rest = rises-map f g key other (key (f z) + 1) high zs e r.2 in (
      omega (arith, k, r.0),
      omega (arith, k, r.1),
      subst (λ n. Rises other (n + 1) high (map g zs)) (sym k) rest,
    )

-- ---- look-ups

pub find-here : {X : Type 0} (b : ℕ) (e : ℕ × X) (es : List (ℕ × X)) → b ≡ e.0
    → find nat_cmp b (e ∷ es) ≡ Some e.1
find-here b e es is = ap (λ t. cond t (Some e.1) (find nat_cmp b es)) (unsigned_tied b e.0 ∙ eq-eqb b e.0 is)

pub find-there : {X : Type 0} (b : ℕ) (e : ℕ × X) (es : List (ℕ × X)) → (b ≡ e.0 → ⊥)
    → find nat_cmp b (e ∷ es) ≡ find nat_cmp b es
find-there b e es not =
    ap (λ t. cond t (Some e.1) (find nat_cmp b es)) (unsigned_tied b e.0 ∙ ne_eqb b e.0 not)

pub find-below : {X : Type 0} (b low high : ℕ) (es : List (ℕ × X)) → b < low
    → Rises (λ (e : ℕ × X). e.0) low high es → find nat_cmp b es ≡ None
find-below b low high [] l r = refl
find-below b low high (e ∷ es) l r =
    find-there b e es (λ is. let h = r.0 in omega (arith, h, is))
    ∙ find-below b (e.0 + 1) high es (omega (arith, r.0)) r.2

-- ---- lists

-- an element goes from the front of what is left to the end of what is done
pub push-moves : {X : Type 0} (xs new : List X) (x : X) (rest whole : List X) → new ≡ xs ++ x ∷ []
    → whole ≡ x ∷ rest → new ++ rest ≡ xs ++ whole
push-moves xs new x rest whole e w =
    ap (λ ys. ys ++ rest) e ∙ (append_assoc xs (x ∷ []) rest ∙ ap (λ ys. xs ++ ys) (sym w))
