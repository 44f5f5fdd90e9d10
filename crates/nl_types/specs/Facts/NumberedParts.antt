-- Parts of a list of entries in the order of their numbers: what stays where some entries leave, and values
-- that change.
use Rattle.std.proofs.Common.{◌≡◌, ℕ, ◌<◌, ◌≤◌, Bool, true, false, cond, ◌&&◌, ◌||◌, List, [], ◌∷◌, map, Some, None, refl, sym, ap, ◌∙◌, true≢false, arith, is_some, eqb-true, eq-eqb}
use Rattle.std.specs.Prelude.{◌==◌}
use Rattle.std.specs.List.{filter, list_all}
use Rattle.std.specs.Option.{option_map}
use Rattle.std.proofs.lemmas.Bool.{and_parts, and_from, eqb-false}
use Rattle.std.specs.Ordering.{nat_cmp, is_lt, eq_by_cmp}
use Rattle.std.specs.Cmp.{unsigned_tied}
use Rattle.std.specs.FinMap.{find, is_sorted, nat_cmp-IsAntisymmetric}
use Rattle.std.specs.FinMap.Entries.{below_all, find-where_key, is_sorted-where_key}
use Rattle.nl_types.specs.Plain.NumberLists.{is_one_of}
use Rattle.nl_types.specs.Plain.CheckpointLaws.{where_passes}
use Rattle.nl_types.specs.Facts.Booleans.{is_true, holds}
use Rattle.nl_types.specs.Facts.NumberedLists.{top, before-lt, tied-false}

-- ---- numbers that tie

pub tied-true : (m n : ℕ) → m ≡ n → eq_by_cmp nat_cmp m n ≡ true
tied-true m n same = unsigned_tied m n ∙ eq-eqb m n same

pub tied-same : (m n : ℕ) → eq_by_cmp nat_cmp m n ≡ true → m ≡ n
tied-same m n tied = eqb-true m n (sym (unsigned_tied m n) ∙ tied)

-- what holds of all holds of those that stay
pub list_all-filter : {X : Type 0} (q p : X → Bool) (xs : List X) → list_all q xs ≡ true
    → list_all q (filter p xs) ≡ true
list_all-filter q p [] all = refl
list_all-filter q p (x ∷ xs) all =
    let parts = and_parts (q x) (list_all q xs) all in
    let rest = list_all-filter q p xs parts.1 in
    elim (p x) as (λ b. list_all q (cond b (x ∷ filter p xs) (filter p xs)) ≡ true) [
      | true ↦ and_from (q x) (list_all q (filter p xs)) parts.0 rest
      | false ↦ rest
    ]

module _ {X : Type 0} where
  -- a number below all entries is not among them
  pub find_below : (es : List (ℕ × X)) (q : ℕ) → below_all nat_cmp q es ≡ true → find nat_cmp q es ≡ None
  find_below [] q below = refl
  find_below (e ∷ es) q below =
      let parts = and_parts (is_lt (nat_cmp q e.0)) (below_all nat_cmp q es) below in
      let lt : q < e.0 = before-lt q e.0 parts.0 in
      ap (λ b. cond b (Some e.1) (find nat_cmp q es)) (tied-false q e.0 (λ same. omega arith))
      ∙ find_below es q parts.1

  -- a number is among those of the entries where it is found
  pub is_one_of-find : (es : List (ℕ × X)) (q : ℕ)
      → is_one_of (map (λ e. e.0) es) q ≡ is_some (find nat_cmp q es)
  is_one_of-find [] q = refl
  is_one_of-find (e ∷ es) q =
      elim (q == e.0) as (λ b.
      (q == e.0) ≡ b
      → is_one_of (e.0 ∷ map (λ d. d.0) es) q
      ≡ is_some (cond (eq_by_cmp nat_cmp q e.0) (Some e.1) (find nat_cmp q es))) [
        | true ↦ λ here.
            ap (λ b. b || is_one_of (map (λ d. d.0) es) q) here
            ∙ sym (ap (λ b. is_some (cond b (Some e.1) (find nat_cmp q es)))
            (tied-true q e.0 (eqb-true q e.0 here)))
        | false ↦ λ other.
            ap (λ b. b || is_one_of (map (λ d. d.0) es) q) other ∙ is_one_of-find es q
            ∙ sym (ap (λ b. is_some (cond b (Some e.1) (find nat_cmp q es)))
            (tied-false q e.0 (eqb-false q e.0 other)))
      ] refl

  -- ---- entries that stay by their numbers

  -- p answers at each number whether its entry stays
  pub find-kept : (p : ℕ → Bool) (es : List (ℕ × X)) (q : ℕ)
      → find nat_cmp q (filter (λ e. p e.0) es) ≡ cond (p q) (find nat_cmp q es) None
  find-kept p es q = find-where_key nat_cmp p q (λ x tied. ap p (sym (nat_cmp-IsAntisymmetric q x tied))) es

  pub is_sorted-kept : (p : ℕ → Bool) (es : List (ℕ × X)) → is_sorted nat_cmp es ≡ true
      → is_sorted nat_cmp (filter (λ e. p e.0) es) ≡ true
  is_sorted-kept p es sorted = is_true _ (is_sorted-where_key nat_cmp p es (holds _ sorted))

  -- a number that is found is not above the greatest
  pub found_le_top : (es : List (ℕ × X)) (q : ℕ) → is_some (find nat_cmp q es) ≡ true → q ≤ top es
  found_le_top [] q there = absurd (true≢false (sym there))
  found_le_top (e ∷ es) q there =
      elim (eq_by_cmp nat_cmp q e.0) as (λ b.
      eq_by_cmp nat_cmp q e.0 ≡ b → is_some (cond b (Some e.1) (find nat_cmp q es)) ≡ true
      → q ≤ top (e ∷ es)) [
        | true ↦ λ tied _. let same : q ≡ e.0 = tied-same q e.0 tied in omega arith
        | false ↦ λ _ later. let rest = found_le_top es q later in omega arith
      ] refl there

  top-filter : (p : ℕ × X → Bool) (es : List (ℕ × X)) → top (filter p es) ≤ top es
  top-filter p [] = omega arith
  top-filter p (e ∷ es) =
      let rest = top-filter p es in
      elim (p e) as (λ b. top (cond b (e ∷ filter p es) (filter p es)) ≤ top (e ∷ es))
      [ true ↦ omega arith | false ↦ omega arith ]

  -- where the entry of the greatest number stays, that is the greatest still
  pub top-kept : (p : ℕ → Bool) (es : List (ℕ × X)) → is_some (find nat_cmp (top es) es) ≡ true
      → p (top es) ≡ true → top (filter (λ e. p e.0) es) ≡ top es
  top-kept p es there stays =
      let found =
      ap is_some (find-kept p es (top es) ∙ ap (λ b. cond b (find nat_cmp (top es) es) None) stays)
      ∙ there in
      let low = found_le_top (filter (λ e. p e.0) es) (top es) found in
      let high = top-filter (λ e. p e.0) es in
      omega arith

  -- ---- entries that stay by their values

  -- in a list in order, what is found of those that stay is what was found, where it stays
  pub find-filter : (p : ℕ → X → Bool) (es : List (ℕ × X)) (q : ℕ) → is_sorted nat_cmp es ≡ true
      → find nat_cmp q (filter (λ e. p e.0 e.1) es) ≡ where_passes (p q) (find nat_cmp q es)
  find-filter p [] q sorted = refl
  find-filter p (e ∷ es) q sorted =
      let parts = and_parts (below_all nat_cmp e.0 es) (is_sorted nat_cmp es) sorted in
      let left = filter (λ d. p d.0 d.1) es in
      let rest = find-filter p es q parts.1 in
      elim (eq_by_cmp nat_cmp q e.0) as (λ t.
      eq_by_cmp nat_cmp q e.0 ≡ t
      → find nat_cmp q (cond (p e.0 e.1) (e ∷ left) left)
      ≡ where_passes (p q) (cond t (Some e.1) (find nat_cmp q es))) [
        | true ↦ λ tied.
            let same : q ≡ e.0 = tied-same q e.0 tied in
            let none : find nat_cmp q es ≡ None =
            ap (λ k. find nat_cmp k es) same ∙ find_below es e.0 parts.0 in
            let gone : find nat_cmp q left ≡ None = rest ∙ ap (where_passes (p q)) none in
            ap (λ k. find nat_cmp q (cond (p k e.1) (e ∷ left) left)) (sym same)
            ∙ elim (p q e.1) as (λ b. find nat_cmp q (cond b (e ∷ left) left) ≡ cond b (Some e.1) None) [
              | true ↦ ap (λ t. cond t (Some e.1) (find nat_cmp q left)) tied
              | false ↦ gone
            ]
        | false ↦
            λ apart.
            elim (p e.0 e.1) as (λ b.
            find nat_cmp q (cond b (e ∷ left) left) ≡ where_passes (p q) (find nat_cmp q es)) [
              | true ↦ ap (λ t. cond t (Some e.1) (find nat_cmp q left)) apart ∙ rest
              | false ↦ rest
            ]
      ] refl

  below-filter : (p : ℕ × X → Bool) (x : ℕ) (es : List (ℕ × X)) → below_all nat_cmp x es ≡ true
      → below_all nat_cmp x (filter p es) ≡ true
  below-filter p x [] below = refl
  below-filter p x (e ∷ es) below =
      let parts = and_parts (is_lt (nat_cmp x e.0)) (below_all nat_cmp x es) below in
      let rest = below-filter p x es parts.1 in
      elim (p e) as (λ b. below_all nat_cmp x (cond b (e ∷ filter p es) (filter p es)) ≡ true) [
        | true ↦ and_from (is_lt (nat_cmp x e.0)) (below_all nat_cmp x (filter p es)) parts.0 rest
        | false ↦ rest
      ]

  pub is_sorted-filter : (p : ℕ × X → Bool) (es : List (ℕ × X)) → is_sorted nat_cmp es ≡ true
      → is_sorted nat_cmp (filter p es) ≡ true
  is_sorted-filter p [] sorted = refl
  is_sorted-filter p (e ∷ es) sorted =
      let parts = and_parts (below_all nat_cmp e.0 es) (is_sorted nat_cmp es) sorted in
      let rest = is_sorted-filter p es parts.1 in
      elim (p e) as (λ b. is_sorted nat_cmp (cond b (e ∷ filter p es) (filter p es)) ≡ true) [
        | true ↦
            and_from (below_all nat_cmp e.0 (filter p es)) (is_sorted nat_cmp (filter p es))
            (below-filter p e.0 es parts.0) rest
        | false ↦ rest
      ]

module _ {X Y : Type 0} (f : ℕ → X → Y) where
  -- ---- values that change

  -- the entries with other values
  abbrev pub valued : List (ℕ × X) → List (ℕ × Y)
  valued es = map (λ e. (e.0, f e.0 e.1)) es

  pub find-valued : (es : List (ℕ × X)) (q : ℕ)
      → find nat_cmp q (valued es) ≡ option_map (f q) (find nat_cmp q es)
  find-valued [] q = refl
  find-valued (e ∷ es) q =
      elim (eq_by_cmp nat_cmp q e.0) as (λ b.
      eq_by_cmp nat_cmp q e.0 ≡ b
      → cond b (Some (f e.0 e.1)) (find nat_cmp q (valued es))
      ≡ option_map (f q) (cond b (Some e.1) (find nat_cmp q es))) [
        | true ↦ λ tied. ap (λ k. Some (f k e.1)) (sym (tied-same q e.0 tied))
        | false ↦ λ _. find-valued es q
      ] refl

  below-valued : (x : ℕ) (es : List (ℕ × X)) → below_all nat_cmp x (valued es) ≡ below_all nat_cmp x es
  below-valued x [] = refl
  below-valued x (e ∷ es) = ap (λ b. is_lt (nat_cmp x e.0) && b) (below-valued x es)

  pub is_sorted-valued : (es : List (ℕ × X)) → is_sorted nat_cmp (valued es) ≡ is_sorted nat_cmp es
  is_sorted-valued [] = refl
  is_sorted-valued (e ∷ es) =
      let first = below-valued e.0 es in
      let rest = is_sorted-valued es in
      λ i. first i && rest i

  pub top-valued : (es : List (ℕ × X)) → top (valued es) ≡ top es
  top-valued [] = refl
  top-valued (e ∷ es) = let rest = top-valued es in omega arith
