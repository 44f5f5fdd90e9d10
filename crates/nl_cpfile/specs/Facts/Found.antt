-- Where the checkpoint of a number stands in a list that rises.
use Rattle.std.proofs.Common.{◌≡◌, ◌≢◌, ℕ, zero, suc, ◌<◌, Bool, true, false, not, eqb, ltb, cond, List, [], ◌∷◌, ◌++◌, length, get_or, map, Option, None, Some, refl, sym, ap, ◌∙◌, subst, arith, inl, inr, ◌⊎◌}
use Rattle.std.proofs.Math.ListN.{set}
use Rattle.std.specs.Prelude.{◌||◌}
use Rattle.std.specs.List.{AllByRecursion, filter, remove}
use Rattle.std.specs.List.Sorted.{IsPartitionPoint}
use Rattle.std.specs.Option.{option_or}
use Rattle.std.specs.FinMap.{find}
use Rattle.std.specs.Ordering.{nat_cmp, eq_by_cmp}
use Rattle.std.proofs.lemmas.Bool.{cases_lt, eqb-false, eqb-true, eq-eqb, ltb-true, ltb-false, ne_eqb, cases_eq}
use Rattle.std.specs.Cmp.{unsigned_tied}
use Rattle.nl_types.specs.declared.event.Mode.{Mode}
use Rattle.nl_cpfile.specs.declared.checkpoint.Checkpoint.{Checkpoint}
use Rattle.nl_cpfile.specs.Searching.{HasNumberAt}
use Rattle.nl_cpfile.specs.Tables.{IsRising, IsTable, Precedes, Table, by_number, kept_at, moded, is_kept_without, with_mode}
use Rattle.nl_cpfile.specs.Facts.Rising.{All-at, All-last, IsRising-front, IsRising-last, IsRising-numbers, same_table}

-- what is found under a number
abbrev pub found : ℕ → List Checkpoint → Option Checkpoint
found n kept = find nat_cmp n (map by_number kept)

-- the order's test of two numbers is `==`
pub eq_by_cmp-nat_cmp : (n m : ℕ) → eq_by_cmp nat_cmp n m ≡ eqb m n
eq_by_cmp-nat_cmp n m = unsigned_tied n m ∙ either (cases_eq n m)
  where
    either : (n ≡ m) ⊎ (n ≢ m) → eqb n m ≡ eqb m n
    either (inl same) = eq-eqb n m same ∙ sym (eq-eqb m n (sym same))
    either (inr other) = ne_eqb n m other ∙ sym (ne_eqb m n (λ same. other (sym same)))

pub found-here : (n : ℕ) (c : Checkpoint) (kept : List Checkpoint) → c.number ≡ n
    → found n (c ∷ kept) ≡ Some c
found-here n c kept is =
    ap (λ b. cond b (Some c) (found n kept)) (eq_by_cmp-nat_cmp n c.number ∙ eq-eqb c.number n is)

pub found-later : (n : ℕ) (c : Checkpoint) (kept : List Checkpoint) → c.number ≢ n
    → found n (c ∷ kept) ≡ found n kept
found-later n c kept other =
    ap (λ b. cond b (Some c) (found n kept)) (eq_by_cmp-nat_cmp n c.number ∙ ne_eqb c.number n other)

-- a number that no checkpoint has
pub found-none : (n : ℕ) (kept : List Checkpoint) (d : Checkpoint)
    → ((k : ℕ) → k < length kept → (get_or kept k d).number ≢ n) → found n kept ≡ None
found-none n [] d none = refl
found-none n (c ∷ kept) d none =
    found-later n c kept (none 0 (omega arith)) ∙ found-none n kept d (λ k lt. none (suc k) (omega arith))

-- the number of a checkpoint
pub found-at : (n : ℕ) (kept : List Checkpoint) (i : ℕ) (d : Checkpoint) → IsRising kept → i < length kept
    → (get_or kept i d).number ≡ n → found n kept ≡ Some (get_or kept i d)
found-at n [] i d rising lt is = absurd (omega arith)
found-at n (c ∷ kept) zero d rising lt is = found-here n c kept is
found-at n (c ∷ kept) (suc i) d rising lt is =
    let up = (All-at (Precedes c) kept i d rising.0 (omega arith)).number in
    found-later n c kept (λ same. absurd (omega (arith, up, is, same)))
    ∙ found-at n kept i d rising.1 (omega arith) is

-- the last checkpoint is found where no earlier one has the number
pub found-push : (n : ℕ) (earlier : List Checkpoint) (latest : Checkpoint) (was : Option Checkpoint)
    → found n earlier ≡ was
    → option_or was (cond (eqb latest.number n) (Some latest) None) ≡ found n (earlier ++ latest ∷ [])
found-push n earlier latest was is =
    ap (λ o. option_or o (cond (eqb latest.number n) (Some latest) None)) (sym is) ∙ pushed earlier
  where
    pushed : (earlier : List Checkpoint)
        → option_or (found n earlier) (cond (eqb latest.number n) (Some latest) None)
        ≡ found n (earlier ++ latest ∷ [])
    pushed [] = rw (eq_by_cmp-nat_cmp n latest.number) refl
    pushed (c ∷ earlier) =
        elim (eq_by_cmp nat_cmp n c.number) as (λ b.
        option_or (cond b (Some c) (found n earlier)) (cond (eqb latest.number n) (Some latest) None)
        ≡ cond b (Some c) (found n (earlier ++ latest ∷ []))) [
          | true ↦ refl
          | false ↦ pushed earlier
        ]

-- the last one of a list that rises
pub found-last : (n : ℕ) (earlier : List Checkpoint) (latest : Checkpoint) → IsRising (earlier ++ latest ∷ [])
    → latest.number ≡ n → found n (earlier ++ latest ∷ []) ≡ Some latest
found-last n [] latest rising is = found-here n latest [] is
found-last n (c ∷ earlier) latest rising is =
    let up = (All-last (Precedes c) earlier latest rising.0).number in
    found-later n c (earlier ++ latest ∷ []) (λ same. absurd (omega (arith, up, is, same)))
    ∙ found-last n earlier latest rising.1 is

-- ---- where a search for a number ends

abbrev pub IsPlace : List Checkpoint → ℕ → ℕ → Type 0
IsPlace kept n i =
    IsPartitionPoint (λ (c : Checkpoint). ltb c.number n ≡ true)
    (λ (c : Checkpoint). ltb c.number n ≡ false) kept i

-- another number stands there, or none
pub found-not_here : (kept : List Checkpoint) (n i : ℕ) (d : Checkpoint) → IsRising kept → IsPlace kept n i
    → (i < length kept → (get_or kept i d).number ≢ n) → found n kept ≡ None
found-not_here kept n i d rising place other = found-none n kept d each
  where
    each : (k : ℕ) → k < length kept → (get_or kept k d).number ≢ n
    each k lt e = elim (cases_lt k i) [
      | inl below ↦ let low = ltb-true _ _ (place.0 k d (omega arith) below) in absurd (omega (arith, low, e))
      | inr above ↦
          let high = ltb-false _ _ (place.1 i d (omega arith) (omega arith)) in
          let rises = IsRising-numbers kept rising i k d above lt in
          absurd (other (omega arith) (omega (arith, high, rises, e)))
    ]

-- ---- a change at a place

moded-apart : (n : ℕ) (mode : Mode) (c : Checkpoint) → c.number ≢ n → moded n mode c ≡ c
moded-apart n mode c other =
    ap (λ b. (let d : Checkpoint = cond b (record c { mode = mode }) c in d)) (ne_eqb c.number n other)

pub moded-here : (n : ℕ) (mode : Mode) (c : Checkpoint) → c.number ≡ n → moded n mode c ≡ record c {
  mode = mode;
}
moded-here n mode c is =
    ap (λ b. (let d : Checkpoint = cond b (record c { mode = mode }) c in d)) (eq-eqb c.number n is)

map-moded_above : (n : ℕ) (mode : Mode) (c : Checkpoint) (kept : List Checkpoint) → c.number ≡ n
    → AllByRecursion (Precedes c) kept → map (moded n mode) kept ≡ kept
map-moded_above n mode c [] is each = refl
map-moded_above n mode c (x ∷ kept) is each =
    let up = each.0.number in
    both (moded-apart n mode x (λ same. absurd (omega (arith, up, is, same))))
    (map-moded_above n mode c kept is each.1)
  where
    both : {a b : Checkpoint} {xs ys : List Checkpoint} → a ≡ b → xs ≡ ys → a ∷ xs ≡ b ∷ ys
    both p q = cc

-- below a number, no mode changes
pub map-moded_below : (n : ℕ) (mode : Mode) (latest : Checkpoint) (kept : List Checkpoint) → latest.number ≡ n
    → AllByRecursion (λ (c : Checkpoint). Precedes c latest) kept → map (moded n mode) kept ≡ kept
map-moded_below n mode latest [] is each = refl
map-moded_below n mode latest (x ∷ kept) is each =
    let up = each.0.number in
    both (moded-apart n mode x (λ same. absurd (omega (arith, up, is, same))))
    (map-moded_below n mode latest kept is each.1)
  where
    both : {a b : Checkpoint} {xs ys : List Checkpoint} → a ≡ b → xs ≡ ys → a ∷ xs ≡ b ∷ ys
    both p q = cc

-- the mode of one is set
pub set-moded : (n : ℕ) (mode : Mode) (kept : List Checkpoint) (i : ℕ) (d v : Checkpoint) → IsRising kept
    → i < length kept → (get_or kept i d).number ≡ n → v ≡ moded n mode (get_or kept i d)
    → set kept i v ≡ map (moded n mode) kept
set-moded n mode [] i d v rising lt is value = absurd (omega arith)
set-moded n mode (c ∷ kept) zero d v rising lt is value =
    both value (sym (map-moded_above n mode c kept is rising.0))
  where
    both : {a b : Checkpoint} {xs ys : List Checkpoint} → a ≡ b → xs ≡ ys → a ∷ xs ≡ b ∷ ys
    both p q = cc
set-moded n mode (c ∷ kept) (suc i) d v rising lt is value =
    let up = (All-at (Precedes c) kept i d rising.0 (omega arith)).number in
    both (sym (moded-apart n mode c (λ same. absurd (omega (arith, up, is, same)))))
    (set-moded n mode kept i d v rising.1 (omega arith) is value)
  where
    both : {a b : Checkpoint} {xs ys : List Checkpoint} → a ≡ b → xs ≡ ys → a ∷ xs ≡ b ∷ ys
    both p q = cc

-- ---- a checkpoint leaves

kept_without-apart : (n : ℕ) (c : Checkpoint) → c.number ≢ n → is_kept_without (n ∷ []) c ≡ true
kept_without-apart n c other = ap (λ b. not (b || false)) (ne_eqb c.number n other)

kept_without-here : (n : ℕ) (c : Checkpoint) → c.number ≡ n → is_kept_without (n ∷ []) c ≡ false
kept_without-here n c is = ap (λ b. not (b || false)) (eq-eqb c.number n is)

filter_above : (n : ℕ) (c : Checkpoint) (kept : List Checkpoint) → c.number ≡ n
    → AllByRecursion (Precedes c) kept → filter (is_kept_without (n ∷ [])) kept ≡ kept
filter_above n c [] is each = refl
filter_above n c (x ∷ kept) is each =
    let up = each.0.number in
    ap (λ b. cond b (x ∷ filter (is_kept_without (n ∷ [])) kept) (filter (is_kept_without (n ∷ [])) kept))
    (kept_without-apart n x (λ same. absurd (omega (arith, up, is, same))))
    ∙ ap (λ (xs : List Checkpoint). x ∷ xs) (filter_above n c kept is each.1)

-- one is taken out
pub remove-filter : (n : ℕ) (kept : List Checkpoint) (i : ℕ) (d : Checkpoint) → IsRising kept
    → i < length kept → (get_or kept i d).number ≡ n → remove kept i ≡ filter (is_kept_without (n ∷ [])) kept
remove-filter n [] i d rising lt is = absurd (omega arith)
remove-filter n (c ∷ kept) zero d rising lt is =
    sym (ap
    (λ b. cond b (c ∷ filter (is_kept_without (n ∷ [])) kept) (filter (is_kept_without (n ∷ [])) kept))
    (kept_without-here n c is)
    ∙ filter_above n c kept is rising.0)
remove-filter n (c ∷ kept) (suc i) d rising lt is =
    let up = (All-at (Precedes c) kept i d rising.0 (omega arith)).number in
    sym (ap
    (λ b. cond b (c ∷ filter (is_kept_without (n ∷ [])) kept) (filter (is_kept_without (n ∷ [])) kept))
    (kept_without-apart n c (λ same. absurd (omega (arith, up, is, same))))
    ∙ ap (λ (xs : List Checkpoint). c ∷ xs) (sym (remove-filter n kept i d rising.1 (omega arith) is)))

-- none has the number
pub filter-absent : (n : ℕ) (kept : List Checkpoint) → found n kept ≡ None
    → filter (is_kept_without (n ∷ [])) kept ≡ kept
filter-absent n [] none = refl
filter-absent n (c ∷ kept) none = by (eqb c.number n) refl (λ later. filter-absent n kept later)
  where
    by : (b : Bool) → eqb c.number n ≡ b
        → (found n kept ≡ None → filter (is_kept_without (n ∷ [])) kept ≡ kept)
        → filter (is_kept_without (n ∷ [])) (c ∷ kept) ≡ c ∷ kept
    by true here rest = let no = sym (found-here n c kept (eqb-true c.number n here)) ∙ none in cc
    by false other rest =
        let apart = eqb-false c.number n other in
        ap (λ b. cond b (c ∷ filter (is_kept_without (n ∷ [])) kept) (filter (is_kept_without (n ∷ [])) kept))
        (kept_without-apart n c apart)
        ∙ ap (λ (xs : List Checkpoint). c ∷ xs) (rest (sym (found-later n c kept apart) ∙ none))

-- ---- in a whole table

module _ (t : Table) (is : IsTable t) (n : ℕ) where
  pub earlier-IsRising : (items : List Checkpoint) → items ≡ t.earlier → IsRising items
  earlier-IsRising items same = subst IsRising (sym same) (IsRising-front t.earlier (t.latest ∷ []) is.rising)

  -- an earlier checkpoint of the number
  pub kept-earlier : (items : List Checkpoint) (i : ℕ) (c : Checkpoint) → items ≡ t.earlier
      → HasNumberAt items n i → c ≡ get_or items i c → kept_at n t ≡ Some c
  kept-earlier items i c same has at =
      let here : found n items ≡ Some c =
      found-at n items i c (earlier-IsRising items same) has.inside (has.number c) ∙ ap Some (sym at) in
      sym (found-push n t.earlier t.latest (Some c) (ap (found n) (sym same) ∙ here))

  -- none of them
  pub kept-latest : (items : List Checkpoint) → items ≡ t.earlier → found n items ≡ None
      → eqb t.latest.number n ≡ true → kept_at n t ≡ Some t.latest
  kept-latest items same none here =
      sym (ap (λ b. cond b (Some t.latest) None) (sym here)
      ∙ found-push n t.earlier t.latest None (ap (found n) (sym same) ∙ none))

  pub kept-none : (items : List Checkpoint) → items ≡ t.earlier → found n items ≡ None
      → eqb t.latest.number n ≡ false → kept_at n t ≡ None
  kept-none items same none other =
      sym (ap (λ b. cond b (Some t.latest) None) (sym other)
      ∙ found-push n t.earlier t.latest None (ap (found n) (sym same) ∙ none))

  pub kept-last : eqb t.latest.number n ≡ true → kept_at n t ≡ Some t.latest
  kept-last here = found-last n t.earlier t.latest is.rising (eqb-true t.latest.number n here)

-- ---- a mode in a whole table

-- the latest checkpoint's
pub with_mode-latest : (t : Table) → IsTable t → (n : ℕ) (mode : Mode) → eqb t.latest.number n ≡ true
    → with_mode n mode t ≡ record { earlier = t.earlier; latest = record t.latest { mode = mode } }
with_mode-latest t is n mode here =
    let same = eqb-true t.latest.number n here in
    same_table (map-moded_below n mode t.latest t.earlier same (IsRising-last t.earlier t.latest is.rising))
    (moded-here n mode t.latest same)

-- an earlier one's
pub with_mode-earlier : (t : Table) → IsTable t → (n : ℕ) (mode : Mode) (i : ℕ) (c : Checkpoint)
    → eqb t.latest.number n ≡ false → HasNumberAt t.earlier n i → c ≡ get_or t.earlier i c
    → with_mode n mode t ≡ record { earlier = set t.earlier i (record c { mode = mode }); latest = t.latest }
with_mode-earlier t is n mode i c other has at =
    let number = has.number c in
    let value : (let d : Checkpoint = record c { mode = mode } in d) ≡ moded n mode (get_or t.earlier i c) =
    sym (moded-here n mode c (ap (λ (x : Checkpoint). x.number) at ∙ number)) ∙ ap (moded n mode) at in
    same_table (sym (set-moded n mode t.earlier i c (record c { mode = mode })
    (earlier-IsRising t is n t.earlier refl) has.inside number value))
    (moded-apart n mode t.latest (eqb-false t.latest.number n other))

-- a mode that a checkpoint has, set once more
same-moded : (n : ℕ) (mode : Mode) (c : Checkpoint) → c.number ≡ n → c.mode ≡ mode → moded n mode c ≡ c
same-moded n mode c is has =
    moded-here n mode c is ∙ ap (λ m. (let d : Checkpoint = record c { mode = m } in d)) (sym has)

map-moded_same : (n : ℕ) (mode : Mode) (kept : List Checkpoint) → IsRising kept
    → ((c : Checkpoint) → found n kept ≡ Some c → c.mode ≡ mode) → map (moded n mode) kept ≡ kept
map-moded_same n mode [] rising has = refl
map-moded_same n mode (c ∷ kept) rising has =
    by (eqb c.number n) refl (λ later. map-moded_same n mode kept rising.1 later)
  where
    both : {a b : Checkpoint} {xs ys : List Checkpoint} → a ≡ b → xs ≡ ys → a ∷ xs ≡ b ∷ ys
    both p q = cc

    by : (b : Bool) → eqb c.number n ≡ b
        → (((d : Checkpoint) → found n kept ≡ Some d → d.mode ≡ mode) → map (moded n mode) kept ≡ kept)
        → map (moded n mode) (c ∷ kept) ≡ c ∷ kept
    by true here rest =
        let is = eqb-true c.number n here in
        both (same-moded n mode c is (has c (found-here n c kept is)))
        (map-moded_above n mode c kept is rising.0)
    by false other rest =
        let apart = eqb-false c.number n other in
        both (moded-apart n mode c apart) (rest (λ d is. has d (found-later n c kept apart ∙ is)))

pub with_mode-same : (t : Table) → IsTable t → (n : ℕ) (mode : Mode)
    → ((c : Checkpoint) → kept_at n t ≡ Some c → c.mode ≡ mode) → with_mode n mode t ≡ t
with_mode-same t is n mode has =
    same_table
    (map-moded_same n mode t.earlier (earlier-IsRising t is n t.earlier refl)
    (λ c at. has c (sym (found-push n t.earlier t.latest (Some c) at))))
    (by (eqb t.latest.number n) refl)
  where
    by : (b : Bool) → eqb t.latest.number n ≡ b → moded n mode t.latest ≡ t.latest
    by true here =
        same-moded n mode t.latest (eqb-true t.latest.number n here) (has t.latest (kept-last t is n here))
    by false other = moded-apart n mode t.latest (eqb-false t.latest.number n other)
