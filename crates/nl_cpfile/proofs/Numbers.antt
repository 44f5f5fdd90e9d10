-- The numbers of checkpoints that rise, and which of them comes next above a number.
use Rattle.std.proofs.Common.{◌≡◌, ℕ, zero, suc, ◌<◌, ◌≤◌, true, false, eqb, leb, List, [], ◌∷◌, ◌++◌, length, get_or, Option, None, Some, unwrap_or, inl, inr, ◌⊎◌, refl, sym, ap, ◌∙◌, subst, arith}
use Rattle.std.specs.Prelude.{◌||◌, MatchOption}
use Rattle.std.specs.List.{AllByRecursion, AllPairs}
use Rattle.std.specs.List.Sorted.{IsPartitionPoint}
use Rattle.std.proofs.lemmas.Bool.{cases_Bool, cases_lt, eqb-true, eq-eqb, leb-true, leb-false, or_left, or_right}
use Rattle.nl_types.specs.Plain.NumberLists.{is_one_of}
use Rattle.nl_cpfile.specs.declared.checkpoint.Checkpoint.{Checkpoint}
use Rattle.nl_cpfile.specs.Searching.{IsLeastAbove, NoneAbove}
use Rattle.nl_cpfile.specs.Tables.{IsRising, Precedes, kept_numbers}
use Rattle.nl_cpfile.specs.Facts.Rising.{IsRising-last, IsRising-numbers, All-at, map-push}

-- ---- they rise

above-first : (c : Checkpoint) (kept : List Checkpoint) (j d : ℕ) → AllByRecursion (Precedes c) kept
    → j < length (kept_numbers kept) → c.number < get_or (kept_numbers kept) j d
above-first c [] j d each within = absurd (omega arith)
above-first c (x ∷ kept) zero d each within = each.0.number
above-first c (x ∷ kept) (suc j) d each within = above-first c kept j d each.1 (omega arith)

pub numbers-rise : (kept : List Checkpoint) → IsRising kept → AllPairs ◌<◌ (kept_numbers kept)
numbers-rise [] rising i j d before within = absurd (omega arith)
numbers-rise (c ∷ kept) rising zero zero d before within = absurd (omega arith)
numbers-rise (c ∷ kept) rising zero (suc j) d before within = above-first c kept j d rising.0 (omega arith)
numbers-rise (c ∷ kept) rising (suc i) zero d before within = absurd (omega arith)
numbers-rise (c ∷ kept) rising (suc i) (suc j) d before within =
    numbers-rise kept rising.1 i j d (omega arith) (omega arith)

-- ---- which there are

one_of-at : (kept : List Checkpoint) (i : ℕ) (d : Checkpoint) → i < length kept
    → is_one_of (kept_numbers kept) (get_or kept i d).number ≡ true
one_of-at [] i d within = absurd (omega arith)
one_of-at (c ∷ kept) zero d within =
    or_left (eqb c.number c.number) (is_one_of (kept_numbers kept) c.number) (eq-eqb c.number c.number refl)
one_of-at (c ∷ kept) (suc i) d within =
    or_right (eqb (get_or kept i d).number c.number) (is_one_of (kept_numbers kept) (get_or kept i d).number)
    (one_of-at kept i d (omega arith))

place-one_of : (kept : List Checkpoint) (m : ℕ) (d : Checkpoint) → is_one_of (kept_numbers kept) m ≡ true
    → (k : ℕ) × (k < length kept) × ((get_or kept k d).number ≡ m)
place-one_of [] m d among = cc
place-one_of (c ∷ kept) m d among = elim (cases_Bool (eqb m c.number)) [
  | inl here ↦ (0, omega arith, sym (eqb-true m c.number here))
  | inr other ↦
      let rest = place-one_of kept m d (sym (ap (λ t. t || is_one_of (kept_numbers kept) m) other) ∙ among) in
      (suc rest.0, omega (arith, rest.1), rest.2)
]

-- ---- the next one above a number

abbrev pub IsPlaceAbove : List Checkpoint → ℕ → ℕ → Type 0
IsPlaceAbove kept n i =
    IsPartitionPoint (λ (c : Checkpoint). leb c.number n ≡ true)
    (λ (c : Checkpoint). leb c.number n ≡ false) kept i

module _ (kept : List Checkpoint) (n i : ℕ) (place : IsPlaceAbove kept n i) where
  pub none_above : Checkpoint → length kept ≤ i → NoneAbove n (kept_numbers kept)
  none_above d past m among =
      let (k, within, is) = place-one_of kept m d among in
      let low = leb-true _ _ (place.0 k d (omega arith) (omega (arith, past, within))) in
      omega (arith, low, is)

  pub least_above : (d : Checkpoint) → IsRising kept → i < length kept
      → IsLeastAbove n (kept_numbers kept) (get_or kept i d).number
  least_above d rising within = record {
    among = one_of-at kept i d within;
    above = leb-false _ _ (place.1 i d (omega arith) within);
    least = λ m among up.
        let (k, there, is) = place-one_of kept m d among in
        elim (cases_lt k i) [
          | inl before ↦
              let low = leb-true _ _ (place.0 k d (omega arith) before) in absurd (omega (arith, low, is, up))
          | inr behind ↦
              let rises = IsRising-numbers kept rising i k d behind there in omega (arith, rises, is)
        ];
  }

-- ---- with the latest one

one_of-push : (ns : List ℕ) (n m : ℕ) → is_one_of (ns ++ n ∷ []) m ≡ true → (is_one_of ns m ≡ true) ⊎ (m ≡ n)
one_of-push [] n m among = elim (cases_Bool (eqb m n)) [
  | inl here ↦ inr (eqb-true m n here)
  | inr other ↦ absurd (none (sym (ap (λ t. t || false) other) ∙ among))
]
  where
    none : false ≡ true → ⊥
    none is = cc
one_of-push (k ∷ ns) n m among = elim (cases_Bool (eqb m k)) [
  | inl here ↦ inl (or_left (eqb m k) (is_one_of ns m) here)
  | inr other ↦ elim (one_of-push ns n m (sym (ap (λ t. t || is_one_of (ns ++ n ∷ []) m) other) ∙ among)) [
    | inl there ↦ inl (or_right (eqb m k) (is_one_of ns m) there)
    | inr last ↦ inr last
  ]
]

push-front : (ns : List ℕ) (n m : ℕ) → is_one_of ns m ≡ true → is_one_of (ns ++ n ∷ []) m ≡ true
push-front [] n m among = cc
push-front (k ∷ ns) n m among = elim (cases_Bool (eqb m k)) [
  | inl here ↦ or_left (eqb m k) (is_one_of (ns ++ n ∷ []) m) here
  | inr other ↦
      or_right (eqb m k) (is_one_of (ns ++ n ∷ []) m)
      (push-front ns n m (sym (ap (λ t. t || is_one_of ns m) other) ∙ among))
]

push-last : (ns : List ℕ) (n : ℕ) → is_one_of (ns ++ n ∷ []) n ≡ true
push-last [] n = or_left (eqb n n) false (eq-eqb n n refl)
push-last (k ∷ ns) n = or_right (eqb n k) (is_one_of (ns ++ n ∷ []) n) (push-last ns n)

-- above a number below the latest one
pub next-above : (n : ℕ) (earlier : List Checkpoint) (latest : Checkpoint) (found : Option ℕ)
    → IsRising (earlier ++ latest ∷ []) → n < latest.number
    → MatchOption found (NoneAbove n (kept_numbers earlier)) (IsLeastAbove n (kept_numbers earlier))
    → IsLeastAbove n (kept_numbers (earlier ++ latest ∷ [])) (unwrap_or found latest.number)
next-above n earlier latest found rising low judged =
    subst (λ (ns : List ℕ). IsLeastAbove n ns (unwrap_or found latest.number))
    (sym (map-push (λ (c : Checkpoint). c.number) earlier latest)) (by found judged)
  where
    ns : List ℕ
    ns = kept_numbers earlier

    by : (o : Option ℕ) → MatchOption o (NoneAbove n ns) (IsLeastAbove n ns)
        → IsLeastAbove n (ns ++ latest.number ∷ []) (unwrap_or o latest.number)
    by None none = record {
      among = push-last ns latest.number;
      above = low;
      least = λ m among up. elim (one_of-push ns latest.number m among) [
        | inl there ↦ let under = none m there in absurd (omega (arith, under, up))
        | inr last ↦ omega (arith, last)
      ];
    }
    by (Some next) is =
        let (k, within, at) = place-one_of earlier next latest is.among in
        let before : Precedes (get_or earlier k latest) latest =
        All-at (λ (c : Checkpoint). Precedes c latest) earlier k latest
        (IsRising-last earlier latest rising) within in
        let below = before.number in
        record {
          among = push-front ns latest.number next is.among;
          above = is.above;
          least = λ m among up. elim (one_of-push ns latest.number m among) [
            | inl there ↦ is.least m there up
            | inr last ↦ omega (arith, last, below, at)
          ];
        }
