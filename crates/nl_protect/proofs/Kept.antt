-- Kept checkpoints that ascend: the least protected one, and those that a period holds.
use Rattle.std.proofs.Common.{◌≡◌, ℕ, zero, suc, ◌+◌, ◌<◌, ◌≤◌, ◌&&◌, Bool, true, false, not, cond, List, [], ◌∷◌, ◌++◌, length, get_or, map, take, drop, reverse, unwrap_or, Option, None, Some, refl, sym, ap, subst, ◌∙◌, arith, rules}
use Rattle.std.specs.Prelude.{◌||◌, min, nat_lt}
use Rattle.std.specs.List.{AllByRecursion, filter, find, list_any}
use Rattle.std.specs.List.Sorted.{IsNonDecreasingBy, IsPartitionPoint, IsPartitionedBy}
use Rattle.std.specs.Option.{option_map, option_map_or}
use Rattle.std.proofs.lemmas.Bool.Decides.{nat_tests}
use Rattle.std.proofs.lemmas.List.Sorted.{IsPermutation-reverse, list_any-IsPermutation}
use Rattle.nl_types.specs.declared.period.Period.{Period}
use Rattle.nl_types.specs.declared.row.Row.{Row}
use Rattle.nl_types.specs.Plain.Protection as protection
use Rattle.nl_types.specs.Blocks.Entries.{holds, is_period_needed}
use Rattle.nl_types.specs.Plain.Rows.{number_of}
use Rattle.nl_cpfile.specs.declared.checkpoint.Checkpoint.{Checkpoint}
use Rattle.nl_cpfile.specs.Tables.{IsRising, Precedes, checkpoint_row, rows_of}
use Rattle.nl_protect.specs.Keeping.{first_protected, stays_within, is_before, is_from, is_protected, is_staying}

-- ---- rising lists

all-at : {X : Type 0} (P : X → Type 0) (xs : List X) (i : ℕ) (d : X) → AllByRecursion P xs → i < length xs
    → P (get_or xs i d)
all-at P [] i d each lt = absurd (omega arith)
all-at P (x ∷ xs) zero d each lt = each.0
all-at P (x ∷ xs) (suc i) d each lt = all-at P xs i d each.1 (omega arith)

all-front : {X : Type 0} (P : X → Type 0) (xs ys : List X) → AllByRecursion P (xs ++ ys) → AllByRecursion P xs
all-front P [] ys each = tt
all-front P (x ∷ xs) ys each = (each.0, all-front P xs ys each.1)

pub rising-front : (xs ys : List Checkpoint) → IsRising (xs ++ ys) → IsRising xs
rising-front [] ys rising = tt
rising-front (c ∷ xs) ys rising = (all-front (Precedes c) xs ys rising.0, rising-front xs ys rising.1)

pub all-last : {X : Type 0} (P : X → Type 0) (xs : List X) (y : X) → AllByRecursion P (xs ++ y ∷ []) → P y
all-last P [] y each = each.0
all-last P (x ∷ xs) y each = all-last P xs y each.1

all-filter : {X : Type 0} (P : X → Type 0) (p : X → Bool) (xs : List X) → AllByRecursion P xs
    → AllByRecursion P (filter p xs)
all-filter P p [] each = tt
all-filter P p (x ∷ xs) each =
    elim (p x) as (λ b. AllByRecursion P (cond b (x ∷ filter p xs) (filter p xs))) [
      | true ↦ (each.0, all-filter P p xs each.1)
      | false ↦ all-filter P p xs each.1
    ]

pub rising-filter : (p : Checkpoint → Bool) (xs : List Checkpoint) → IsRising xs → IsRising (filter p xs)
rising-filter p [] rising = tt
rising-filter p (c ∷ xs) rising = elim (p c) as (λ b. IsRising (cond b (c ∷ filter p xs) (filter p xs))) [
  | true ↦ (all-filter (Precedes c) p xs rising.0, rising-filter p xs rising.1)
  | false ↦ rising-filter p xs rising.1
]

-- what no checkpoint has less of than those before it never falls
module _ (f : Checkpoint → ℕ) (up : (a b : Checkpoint) → Precedes a b → f a ≤ f b) where
  never-falls : (xs : List Checkpoint) → IsRising xs → IsNonDecreasingBy f xs
  never-falls [] rising i j d le lt = absurd (omega arith)
  never-falls (c ∷ xs) rising zero zero d le lt = omega arith
  never-falls (c ∷ xs) rising zero (suc j) d le lt =
      up c (get_or xs j d) (all-at (Precedes c) xs j d rising.0 (omega arith))
  never-falls (c ∷ xs) rising (suc i) zero d le lt = absurd (omega arith)
  never-falls (c ∷ xs) rising (suc i) (suc j) d le lt =
      never-falls xs rising.1 i j d (omega arith) (omega arith)

pub rising-numbers : (xs : List Checkpoint) → IsRising xs
    → IsNonDecreasingBy (λ (c : Checkpoint). c.number) xs
rising-numbers xs rising =
    never-falls (λ c. c.number) (λ a b before. let low = before.number in omega (arith, low)) xs rising

rising-stamps : (xs : List Checkpoint) → IsRising xs → IsNonDecreasingBy (λ (c : Checkpoint). c.stamp) xs
rising-stamps xs rising = never-falls (λ c. c.stamp) (λ a b before. before.stamp) xs rising

-- ---- where a test ends that those before a place pass

abbrev IsPoint : (passes : Checkpoint → Bool) → List Checkpoint → ℕ → Type 0
IsPoint passes kept i = IsPartitionPoint (λ c. passes c ≡ true) (λ c. passes c ≡ false) kept i

behind : (passes : Checkpoint → Bool) (c : Checkpoint) (kept : List Checkpoint) (i : ℕ)
    → IsPoint passes (c ∷ kept) (suc i) → IsPoint passes kept i
behind passes c kept i point = (
  λ k d low lt. point.0 (suc k) d (omega arith) (omega arith),
  λ k d low lt. point.1 (suc k) d (omega arith) (omega arith),
)

behind-first : (passes : Checkpoint → Bool) (c : Checkpoint) (kept : List Checkpoint)
    → IsPoint passes (c ∷ kept) 0 → IsPoint passes kept 0
behind-first passes c kept point =
    (λ k d low lt. absurd (omega arith), λ k d low lt. point.1 (suc k) d (omega arith) (omega arith))

-- ---- the least protected one

module _ (now period : ℕ) where
  -- the least number of those that are protected
  abbrev least_of : List Checkpoint → Option ℕ
  least_of xs = protection.least (map number_of (protection.protected now period (rows_of xs)))

  -- none of those behind a checkpoint has a lower number
  lowest : (c : Checkpoint) (xs : List Checkpoint) → AllByRecursion (Precedes c) xs
      → option_map_or (min c.number) (least_of xs) c.number ≡ c.number
  lowest c [] each = refl
  lowest c (x ∷ xs) each =
      let rest = lowest c xs each.1 in
      let above : c.number < x.number = each.0.number in
      elim (protection.is_protected now period (checkpoint_row x)) as (λ b.
      option_map_or (min c.number)
      (protection.least
      (map number_of (cond b (checkpoint_row x ∷ protection.protected now period (rows_of xs))
      (protection.protected now period (rows_of xs)))))
      c.number
      ≡ c.number) [
        | false ↦ rest
        | true ↦
            elim (least_of xs) as (λ o.
            option_map_or (min c.number) o c.number ≡ c.number
            → min c.number (option_map_or (min x.number) o x.number) ≡ c.number) [
              | None ↦ λ low. omega arith
              | Some k ↦ λ low. omega arith
            ] rest
      ]

  -- so the first protected one decides, or else the latest one
  pub first-decides : (xs : List Checkpoint) (y : Checkpoint) → IsRising (xs ++ y ∷ [])
      → unwrap_or (first_protected now period xs) y.number
      ≡ protection.boundary now period y.number (rows_of (xs ++ y ∷ []))
  first-decides [] y rising =
      elim (is_protected now period y) as (λ b.
      y.number
      ≡ unwrap_or (protection.least (map number_of (cond b (checkpoint_row y ∷ []) []))) y.number) [
        | true ↦ refl
        | false ↦ refl
      ]
  first-decides (x ∷ xs) y rising =
      let rest = first-decides xs y rising.1 in
      elim (is_protected now period x) as (λ b.
      unwrap_or
      (option_map (λ (c : Checkpoint). c.number) (cond b (Some x) (find (is_protected now period) xs)))
      y.number
      ≡ unwrap_or (protection.least
      (map number_of (cond b (checkpoint_row x ∷ protection.protected now period (rows_of (xs ++ y ∷ [])))
      (protection.protected now period (rows_of (xs ++ y ∷ []))))))
      y.number) [
        | true ↦ sym (lowest x (xs ++ y ∷ []) rising.0)
        | false ↦ rest
      ]

  -- and lies no higher than the latest one
  pub boundary-low : (xs : List Checkpoint) (y : Checkpoint) → IsRising (xs ++ y ∷ [])
      → unwrap_or (first_protected now period xs) y.number ≤ y.number
  boundary-low [] y rising = omega arith
  boundary-low (x ∷ xs) y rising =
      let up = (all-last (Precedes x) xs y rising.0).number in
      elim (is_protected now period x) as (λ b.
      unwrap_or
      (option_map (λ (c : Checkpoint). c.number) (cond b (Some x) (find (is_protected now period) xs)))
      y.number
      ≤ y.number) [
        | true ↦ omega (arith, up)
        | false ↦ boundary-low xs y rising.1
      ]

  -- ---- by halving

  abbrev pub is_unprotected : Checkpoint → Bool
  is_unprotected c = not (is_protected now period c)

  ended : (a b : ℕ) → a ≤ b → not (nat_lt now (b + period)) ≡ true → not (nat_lt now (a + period)) ≡ true
  ended a b le is = grind (arith, nat_tests)

  -- what precedes an unprotected one is unprotected too
  pub unprotected-first : (kept : List Checkpoint) → IsRising kept → IsPartitionedBy is_unprotected kept
  unprotected-first kept rising i j d le lt is =
      ended (get_or kept i d).stamp (get_or kept j d).stamp (rising-stamps kept rising i j d le lt) is

  protected-past : (c : Checkpoint) → is_unprotected c ≡ false → is_protected now period c ≡ true
  protected-past c past = search (rules, nat_tests)

  protected-not_yet : (c : Checkpoint) → is_unprotected c ≡ true → is_protected now period c ≡ false
  protected-not_yet c low = search (rules, nat_tests)

  -- the one at the point is the first one
  pub protected-at : (kept : List Checkpoint) (i : ℕ) (d : Checkpoint) → IsPoint is_unprotected kept i
      → i < length kept → find (is_protected now period) kept ≡ Some (get_or kept i d)
  protected-at [] i d point within = absurd (omega arith)
  protected-at (c ∷ kept) zero d point within =
      ap (λ b. cond b (Some c) (find (is_protected now period) kept))
      (protected-past c (point.1 0 c (omega arith) (omega arith)))
  protected-at (c ∷ kept) (suc i) d point within =
      ap (λ b. cond b (Some c) (find (is_protected now period) kept))
      (protected-not_yet c (point.0 0 c (omega arith) (omega arith)))
      ∙ protected-at kept i d (behind is_unprotected c kept i point) (omega arith)

  -- or there is none
  pub protected-none : (kept : List Checkpoint) (i : ℕ) → IsPoint is_unprotected kept i → length kept ≤ i
      → find (is_protected now period) kept ≡ None
  protected-none [] i point past = refl
  protected-none (c ∷ kept) zero point past = absurd (omega arith)
  protected-none (c ∷ kept) (suc i) point past =
      ap (λ b. cond b (Some c) (find (is_protected now period) kept))
      (protected-not_yet c (point.0 0 c (omega arith) (omega arith)))
      ∙ protected-none kept i (behind is_unprotected c kept i point) (omega arith)

-- ---- those that a period holds

from-point : (first : ℕ) (c : Checkpoint) → nat_lt c.number first ≡ false → is_from first c ≡ true
from-point first c past = search (rules, nat_tests)

not_from-point : (first : ℕ) (c : Checkpoint) → nat_lt c.number first ≡ true → is_from first c ≡ false
not_from-point first c low = search (rules, nat_tests)

-- those from the point on are those from the bound on
pub dropped : (first : ℕ) (kept : List Checkpoint) (i : ℕ) → IsPoint (is_before first) kept i
    → drop i kept ≡ filter (is_from first) kept
dropped first [] zero point = refl
dropped first [] (suc i) point = refl
dropped first (c ∷ kept) zero point =
    let here : is_from first c ≡ true = from-point first c (point.1 0 c (omega arith) (omega arith)) in
    ap (λ (xs : List Checkpoint). c ∷ xs) (dropped first kept 0 (behind-first (is_before first) c kept point))
    ∙ ap (λ b. cond b (c ∷ filter (is_from first) kept) (filter (is_from first) kept)) (sym here)
dropped first (c ∷ kept) (suc i) point =
    let here : is_from first c ≡ false = not_from-point first c (point.0 0 c (omega arith) (omega arith)) in
    dropped first kept i (behind (is_before first) c kept i point)
    ∙ ap (λ b. cond b (c ∷ filter (is_from first) kept) (filter (is_from first) kept)) (sym here)

-- those before the point are those before the bound
pub taken : (end : ℕ) (kept : List Checkpoint) (i : ℕ) → IsPoint (is_before end) kept i
    → take i kept ≡ filter (is_before end) kept
taken end [] zero point = refl
taken end [] (suc i) point = refl
taken end (c ∷ kept) zero point =
    let here : is_before end c ≡ false = point.1 0 c (omega arith) (omega arith) in
    taken end kept 0 (behind-first (is_before end) c kept point)
    ∙ ap (λ b. cond b (c ∷ filter (is_before end) kept) (filter (is_before end) kept)) (sym here)
taken end (c ∷ kept) (suc i) point =
    let here : is_before end c ≡ true = point.0 0 c (omega arith) (omega arith) in
    ap (λ (xs : List Checkpoint). c ∷ xs) (taken end kept i (behind (is_before end) c kept i point))
    ∙ ap (λ b. cond b (c ∷ filter (is_before end) kept) (filter (is_before end) kept)) (sym here)

-- ---- whether one of them stays

pub any-reverse : (p : Checkpoint → Bool) (xs : List Checkpoint) → list_any p (reverse xs) ≡ list_any p xs
any-reverse p xs = sym (list_any-IsPermutation p xs (reverse xs) (IsPermutation-reverse xs))

module _ (below start end : ℕ) where
  -- whether a checkpoint that stays is one of the period's
  abbrev is_held : ℕ → Bool
  is_held = holds (record { start = start; end = Some end })

  abbrev among : List Checkpoint → Bool
  among xs = list_any is_held (protection.staying_numbers below (rows_of xs))

  told : (x : Checkpoint) (a : Bool) (rows : List Row)
      → list_any is_held (map number_of (cond a (checkpoint_row x ∷ rows) rows))
      ≡ ((a && is_held x.number) || list_any is_held (map number_of rows))
  told x true rows = refl
  told x false rows = refl

  found-told : (x : Checkpoint) (xs : List Checkpoint)
      → stays_within below start end (x ∷ xs)
      ≡ cond (is_before end x)
      (cond (is_from start x) (is_staying below x || stays_within below start end xs)
      (stays_within below start end xs))
      (stays_within below start end xs)
  found-told x xs =
      elim (is_before end x) as (λ b.
      list_any (is_staying below)
      (filter (is_from start) (cond b (x ∷ filter (is_before end) xs) (filter (is_before end) xs)))
      ≡ cond b (cond (is_from start x) (is_staying below x || stays_within below start end xs)
      (stays_within below start end xs))
      (stays_within below start end xs)) [
        | false ↦ refl
        | true ↦
            elim (is_from start x) as (λ d.
            list_any (is_staying below)
            (cond d (x ∷ filter (is_from start) (filter (is_before end) xs))
            (filter (is_from start) (filter (is_before end) xs)))
            ≡ cond d (is_staying below x || stays_within below start end xs)
            (stays_within below start end xs)) [
              | true ↦ refl
              | false ↦ refl
            ]
      ]

  joined : (a b d y r l : Bool) → l ≡ (y || r) → ((a && (d && b)) || l) ≡ (y || cond b (cond d (a || r) r) r)
  joined true true true true r l e = refl
  joined true true true false r l e = refl
  joined true true false y r l e = e
  joined true false true y r l e = e
  joined true false false y r l e = e
  joined false true true y r l e = e
  joined false true false y r l e = e
  joined false false true y r l e = e
  joined false false false y r l e = e

  turned : (a h : Bool) → ((a && h) || false) ≡ ((h && a) || false)
  turned true true = refl
  turned true false = refl
  turned false true = refl
  turned false false = refl

  -- the latest one, or one of those before it
  pub held : (xs : List Checkpoint) (y : Checkpoint)
      → among (xs ++ y ∷ []) ≡ ((is_held y.number && is_staying below y) || stays_within below start end xs)
  held [] y = told y (is_staying below y) [] ∙ turned (is_staying below y) (is_held y.number)
  held (x ∷ xs) y =
      told x (is_staying below x) (filter (protection.is_staying below) (rows_of (xs ++ y ∷ [])))
      ∙ joined (is_staying below x) (is_before end x) (is_from start x)
      (is_held y.number && is_staying below y) (stays_within below start end xs) (among (xs ++ y ∷ []))
      (held xs y)
      ∙ ap (λ b. (is_held y.number && is_staying below y) || b) (sym (found-told x xs))

-- a period that has ended is needed where it holds the latest one or one of those before it, and that stays
pub needed_is : (below : ℕ) (period : Period) (end : ℕ) (xs : List Checkpoint) (y : Checkpoint)
    → period.end ≡ Some end
    → is_period_needed (protection.staying_numbers below (rows_of (xs ++ y ∷ []))) period
    ≡ (((is_from period.start y && is_before end y) && is_staying below y)
    || stays_within below period.start end xs)
needed_is below period end xs y is =
    subst (λ (o : Option ℕ).
    is_period_needed (protection.staying_numbers below (rows_of (xs ++ y ∷ [])))
    (record { start = period.start; end = o })
    ≡ (((is_from period.start y && is_before end y) && is_staying below y)
    || stays_within below period.start end xs))
    (sym is) (held below period.start end xs y)
