-- Lists of checkpoints that rise.
use Rattle.std.proofs.Common.{◌≡◌, ℕ, zero, suc, ◌<◌, true, false, Bool, cond, List, [], ◌∷◌, ◌++◌, length, get_or, map, refl, ap, subst, arith}
use Rattle.std.specs.Prelude.{◌==◌}
use Rattle.std.specs.List.{All, AllByRecursion, filter}
use Rattle.std.specs.List.Sorted.{IsNonDecreasingBy}
use Rattle.nl_types.specs.declared.event.Mode.{Mode}
use Rattle.nl_cpfile.specs.declared.checkpoint.Checkpoint.{Checkpoint}
use Rattle.nl_cpfile.specs.Tables.{Table, all, ComesNext, IsRising, IsTable, Precedes, moded, with_mode, with_next}

-- ---- what holds of all

module _ {X : Type 0} (P : X → Type 0) where
  pub All-front : (xs ys : List X) → AllByRecursion P (xs ++ ys) → AllByRecursion P xs
  All-front [] ys each = tt
  All-front (x ∷ xs) ys each = (each.0, All-front xs ys each.1)

  pub All-last : (xs : List X) (y : X) → AllByRecursion P (xs ++ y ∷ []) → P y
  All-last [] y each = each.0
  All-last (x ∷ xs) y each = All-last xs y each.1

  pub All-push : (xs : List X) (y : X) → AllByRecursion P xs → P y → AllByRecursion P (xs ++ y ∷ [])
  All-push [] y each last = (last, tt)
  All-push (x ∷ xs) y each last = (each.0, All-push xs y each.1 last)

  pub All-at : (xs : List X) (i : ℕ) (d : X) → AllByRecursion P xs → i < length xs → P (get_or xs i d)
  All-at [] i d each lt = absurd (omega arith)
  All-at (x ∷ xs) zero d each lt = each.0
  All-at (x ∷ xs) (suc i) d each lt = All-at xs i d each.1 (omega arith)

  pub All-filter : (p : X → Bool) (xs : List X) → AllByRecursion P xs → AllByRecursion P (filter p xs)
  All-filter p [] each = tt
  All-filter p (x ∷ xs) each =
      elim (p x) as (λ b. AllByRecursion P (cond b (x ∷ filter p xs) (filter p xs))) [
        | true ↦ (each.0, All-filter p xs each.1)
        | false ↦ All-filter p xs each.1
      ]

  pub All-weaken : (Q : X → Type 0) (xs : List X) → ((x : X) → P x → Q x) → AllByRecursion P xs
      → AllByRecursion Q xs
  All-weaken Q [] weaker each = tt
  All-weaken Q (x ∷ xs) weaker each = (weaker x each.0, All-weaken Q xs weaker each.1)

pub map-push : {X Y : Type 0} (f : X → Y) (xs : List X) (y : X) → map f (xs ++ y ∷ []) ≡ map f xs ++ f y ∷ []
map-push f [] y = refl
map-push f (x ∷ xs) y = ap (λ ys. f x ∷ ys) (map-push f xs y)

-- ---- rising lists

pub IsRising-front : (xs ys : List Checkpoint) → IsRising (xs ++ ys) → IsRising xs
IsRising-front [] ys rising = tt
IsRising-front (c ∷ xs) ys rising = (All-front (Precedes c) xs ys rising.0, IsRising-front xs ys rising.1)

-- all of them precede the last one
pub IsRising-last : (xs : List Checkpoint) (y : Checkpoint) → IsRising (xs ++ y ∷ [])
    → AllByRecursion (λ (c : Checkpoint). Precedes c y) xs
IsRising-last [] y rising = tt
IsRising-last (c ∷ xs) y rising = (All-last (Precedes c) xs y rising.0, IsRising-last xs y rising.1)

-- so the earlier ones of a table lie below its latest one
pub earlier-low : (t : Table) → IsTable t → All (λ (c : Checkpoint). c.number < t.latest.number) t.earlier
earlier-low t is k d within =
    (All-at (λ (c : Checkpoint). Precedes c t.latest) t.earlier k d
    (IsRising-last t.earlier t.latest is.rising) within).number

pub IsRising-push : (xs : List Checkpoint) (y : Checkpoint) → IsRising xs
    → AllByRecursion (λ (c : Checkpoint). Precedes c y) xs → IsRising (xs ++ y ∷ [])
IsRising-push [] y rising before = (tt, tt)
IsRising-push (c ∷ xs) y rising before =
    (All-push (Precedes c) xs y rising.0 before.0, IsRising-push xs y rising.1 before.1)

pub IsRising-filter : (p : Checkpoint → Bool) (xs : List Checkpoint) → IsRising xs → IsRising (filter p xs)
IsRising-filter p [] rising = tt
IsRising-filter p (c ∷ xs) rising = elim (p c) as (λ b. IsRising (cond b (c ∷ filter p xs) (filter p xs))) [
  | true ↦ (All-filter (Precedes c) p xs rising.0, IsRising-filter p xs rising.1)
  | false ↦ IsRising-filter p xs rising.1
]

-- their numbers never fall
pub IsRising-numbers : (xs : List Checkpoint) → IsRising xs
    → IsNonDecreasingBy (λ (c : Checkpoint). c.number) xs
IsRising-numbers [] rising i j d le lt = absurd (omega arith)
IsRising-numbers (c ∷ xs) rising zero zero d le lt = omega arith
IsRising-numbers (c ∷ xs) rising zero (suc j) d le lt =
    let up = (All-at (Precedes c) xs j d rising.0 (omega arith)).number in omega (arith, up)
IsRising-numbers (c ∷ xs) rising (suc i) zero d le lt = absurd (omega arith)
IsRising-numbers (c ∷ xs) rising (suc i) (suc j) d le lt =
    IsRising-numbers xs rising.1 i j d (omega arith) (omega arith)

-- ---- a mode is changed

moded-number : (n : ℕ) (mode : Mode) (c : Checkpoint) → (moded n mode c).number ≡ c.number
moded-number n mode c =
    elim (c.number == n) as (λ b.
    (let d : Checkpoint = cond b (record c { mode = mode }) c in d).number ≡ c.number)
    [ true ↦ refl | false ↦ refl ]

moded-stamp : (n : ℕ) (mode : Mode) (c : Checkpoint) → (moded n mode c).stamp ≡ c.stamp
moded-stamp n mode c =
    elim (c.number == n) as (λ b.
    (let d : Checkpoint = cond b (record c { mode = mode }) c in d).stamp ≡ c.stamp)
    [ true ↦ refl | false ↦ refl ]

moded-Precedes : (n : ℕ) (mode : Mode) (a b : Checkpoint) → Precedes a b
    → Precedes (moded n mode a) (moded n mode b)
moded-Precedes n mode a b before =
    let p = moded-number n mode a in
    let q = moded-number n mode b in
    let r = moded-stamp n mode a in
    let s = moded-stamp n mode b in
    let up = before.number in
    let same = before.stamp in
    record { number = omega (arith, p, q, up); stamp = omega (arith, r, s, same) }

All-moded : (n : ℕ) (mode : Mode) (c : Checkpoint) (xs : List Checkpoint) → AllByRecursion (Precedes c) xs
    → AllByRecursion (Precedes (moded n mode c)) (map (moded n mode) xs)
All-moded n mode c [] each = tt
All-moded n mode c (x ∷ xs) each = (moded-Precedes n mode c x each.0, All-moded n mode c xs each.1)

IsRising-moded : (n : ℕ) (mode : Mode) (xs : List Checkpoint) → IsRising xs → IsRising (map (moded n mode) xs)
IsRising-moded n mode [] rising = tt
IsRising-moded n mode (c ∷ xs) rising = (All-moded n mode c xs rising.0, IsRising-moded n mode xs rising.1)

pub with_mode-IsTable : (n : ℕ) (mode : Mode) (t : Table) → IsTable t → IsTable (with_mode n mode t)
with_mode-IsTable n mode t is =
    let same = moded-number n mode t.latest in
    let below = is.limit in
    record {
      rising =
          subst IsRising (map-push (moded n mode) t.earlier t.latest)
          (IsRising-moded n mode (all t) is.rising);
      limit = omega (arith, same, below);
    }

-- ---- one more comes

Precedes-trans : (a b c : Checkpoint) → Precedes a b → Precedes b c → Precedes a c
Precedes-trans a b c p q =
    let n = p.number in
    let m = q.number in
    let r = p.stamp in
    let s = q.stamp in
    record { number = omega (arith, n, m); stamp = omega (arith, r, s) }

pub with_next-IsTable : (c : Checkpoint) (t : Table) → IsTable t → ComesNext c t → IsTable (with_next c t)
with_next-IsTable c t is next =
    let before : AllByRecursion (λ (d : Checkpoint). Precedes d c) (all t) =
    All-push (λ (d : Checkpoint). Precedes d c) t.earlier t.latest
    (All-weaken (λ (d : Checkpoint). Precedes d t.latest) (λ (d : Checkpoint). Precedes d c) t.earlier
    (λ d up. Precedes-trans d t.latest c up next.follows) (IsRising-last t.earlier t.latest is.rising))
    next.follows in
    record { rising = IsRising-push (all t) c is.rising before; limit = next.limit }

-- ---- some leave

pub filter-IsTable : (p : Checkpoint → Bool) (t : Table) → IsTable t
    → IsTable (record t { earlier = filter p t.earlier })
filter-IsTable p t is = record {
  rising = IsRising-push (filter p t.earlier) t.latest
      (IsRising-filter p t.earlier (IsRising-front t.earlier (t.latest ∷ []) is.rising))
      (All-filter (λ (c : Checkpoint). Precedes c t.latest) p t.earlier
      (IsRising-last t.earlier t.latest is.rising));
  limit = is.limit;
}

pub same_table : {a b : List Checkpoint} {x y : Checkpoint} → a ≡ b → x ≡ y
    → (let t : Table = record { earlier = a; latest = x } in t) ≡ record { earlier = b; latest = y }
same_table p q = rw (p, q) refl
