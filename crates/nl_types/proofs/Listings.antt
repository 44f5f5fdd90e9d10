-- What a listing shows.
use Rattle.std.proofs.Common.{◌≡◌, ℕ, ◌<◌, Bool, true, false, cond, List, [], ◌∷◌, ◌++◌, map, Option, Some, None, refl, sym, ap, ◌∙◌, arith, ltb, ltb-true, eqb-true, ne_eqb, append-nil, not}
use Rattle.std.specs.Prelude.{◌==◌, reverse}
use Rattle.std.specs.List.{filter, list_all}
use Rattle.std.specs.Option.{option_or}
use Rattle.std.proofs.lemmas.Bool.{and_parts, and_from}
use Rattle.std.proofs.lemmas.List.{reverse-append, reverse-reverse}
use Rattle.std.proofs.lemmas.List.Elements.{filter-append}
use Rattle.std.specs.Ordering.{nat_cmp, is_lt}
use Rattle.std.specs.FinMap.{is_sorted}
use Rattle.std.specs.FinMap.Entries.{below_all}
use Rattle.nl_types.specs.declared.row.Row.{Row}
use Rattle.nl_types.specs.Plain.NumberLists.{is_one_of}
use Rattle.nl_types.specs.Plain.Rows.{find_row, is_shown, in_direction, at_most, row_with_mode, with_mode, without}
use Rattle.nl_types.specs.declared.event.Mode.{Mode}
use Rattle.nl_types.specs.Plain.Worlds.{Copy, copy_row, rows, moded, copies_with_mode, copies_without}
use Rattle.nl_types.specs.Plain.CheckpointLaws.{where_passes, are_numbers_rising, RowsTellOfCopies, ListingsShowSelected, ListingsAreInOrder, ListingsEndAtCount, RowsFollowRemovals, RowsFollowModes}
use Rattle.nl_types.specs.Facts.NumberedLists.{before-is}
use Rattle.nl_types.specs.Facts.NumberedParts.{list_all-filter}
use Rattle.nl_types.specs.Facts.ToldCopies.{find_row-copies}

-- all rows have numbers above one
abbrev AllAbove : ℕ → List Row → Type 0
AllAbove n rs = list_all (λ later. ltb n later.number) rs ≡ true

above-rows : (x : ℕ) (copies : List (ℕ × Copy)) → below_all nat_cmp x copies ≡ true
    → AllAbove x (map copy_row copies)
above-rows x [] below = refl
above-rows x (c ∷ copies) below =
    let parts = and_parts (is_lt (nat_cmp x c.0)) (below_all nat_cmp x copies) below in
    and_from (ltb x c.0) (list_all (λ later. ltb x later.number) (map copy_row copies))
    (sym (before-is x c.0) ∙ parts.0) (above-rows x copies parts.1)

rising-rows : (copies : List (ℕ × Copy)) → is_sorted nat_cmp copies ≡ true
    → are_numbers_rising (map copy_row copies) ≡ true
rising-rows [] sorted = refl
rising-rows (c ∷ copies) sorted =
    let parts = and_parts (below_all nat_cmp c.0 copies) (is_sorted nat_cmp copies) sorted in
    and_from (list_all (λ later. ltb c.0 later.number) (map copy_row copies))
    (are_numbers_rising (map copy_row copies)) (above-rows c.0 copies parts.0) (rising-rows copies parts.1)

-- those that pass a test rise too
rising-filter : (p : Row → Bool) (rs : List Row) → are_numbers_rising rs ≡ true
    → are_numbers_rising (filter p rs) ≡ true
rising-filter p [] rising = refl
rising-filter p (r ∷ rs) rising =
    let parts = and_parts (list_all (λ later. ltb r.number later.number) rs) (are_numbers_rising rs) rising in
    let rest = rising-filter p rs parts.1 in
    elim (p r) as (λ b. are_numbers_rising (cond b (r ∷ filter p rs) (filter p rs)) ≡ true) [
      | true ↦
          and_from (list_all (λ later. ltb r.number later.number) (filter p rs))
          (are_numbers_rising (filter p rs))
          (list_all-filter (λ later. ltb r.number later.number) p rs parts.0) rest
      | false ↦ rest
    ]

-- ---- the row of a number

row-below : (n : ℕ) (rs : List Row) → AllAbove n rs → find_row n rs ≡ None
row-below n [] above = refl
row-below n (r ∷ rs) above =
    let parts = and_parts (ltb n r.number) (list_all (λ later. ltb n later.number) rs) above in
    let lt : n < r.number = ltb-true n r.number parts.0 in
    ap (λ b. cond b (Some r) (find_row n rs)) (ne_eqb r.number n (λ same. omega arith))
    ∙ row-below n rs parts.1

row-none : (n : ℕ) (r : Row) (rs : List Row) → are_numbers_rising (r ∷ rs) ≡ true → (r.number == n) ≡ true
    → find_row n rs ≡ None
row-none n r rs rising here =
    let parts = and_parts (list_all (λ later. ltb r.number later.number) rs) (are_numbers_rising rs) rising in
    ap (λ k. find_row k rs) (sym (eqb-true r.number n here)) ∙ row-below r.number rs parts.0

row-filter : (p : Row → Bool) (n : ℕ) (rs : List Row) → are_numbers_rising rs ≡ true
    → find_row n (filter p rs) ≡ where_passes p (find_row n rs)
row-filter p n [] rising = refl
row-filter p n (r ∷ rs) rising =
    let rest =
    row-filter p n rs
    (and_parts (list_all (λ later. ltb r.number later.number) rs) (are_numbers_rising rs) rising).1 in
    let left = filter p rs in
    elim (r.number == n) as (λ t.
    (r.number == n) ≡ t
    → find_row n (cond (p r) (r ∷ left) left) ≡ where_passes p (cond t (Some r) (find_row n rs))) [
      | true ↦ λ here.
          let gone : find_row n left ≡ None = rest ∙ ap (where_passes p) (row-none n r rs rising here) in
          elim (p r) as (λ b. find_row n (cond b (r ∷ left) left) ≡ cond b (Some r) None) [
            | true ↦ ap (λ t. cond t (Some r) (find_row n left)) here
            | false ↦ gone
          ]
      | false ↦
          λ other. elim (p r) as (λ b. find_row n (cond b (r ∷ left) left) ≡ where_passes p (find_row n rs)) [
            | true ↦ ap (λ t. cond t (Some r) (find_row n left)) other ∙ rest
            | false ↦ rest
          ]
    ] refl

-- ---- the other direction

row-push : (n : ℕ) (rs : List Row) (r : Row)
    → find_row n (rs ++ r ∷ []) ≡ option_or (find_row n rs) (find_row n (r ∷ []))
row-push n [] r = refl
row-push n (x ∷ rs) r =
    elim (x.number == n) as (λ b.
    cond b (Some x) (find_row n (rs ++ r ∷ []))
    ≡ option_or (cond b (Some x) (find_row n rs)) (find_row n (r ∷ []))) [
      | true ↦ refl
      | false ↦ row-push n rs r
    ]

or_nothing : (o : Option Row) → option_or o None ≡ o
or_nothing None = refl
or_nothing (Some r) = refl

row-reverse : (n : ℕ) (rs : List Row) → are_numbers_rising rs ≡ true → find_row n (reverse rs) ≡ find_row n rs
row-reverse n [] rising = refl
row-reverse n (r ∷ rs) rising =
    let rest =
    row-reverse n rs
    (and_parts (list_all (λ later. ltb r.number later.number) rs) (are_numbers_rising rs) rising).1 in
    ap (find_row n) (reverse-append (r ∷ []) rs) ∙ row-push n (reverse rs) r
    ∙ ap (λ o. option_or o (find_row n (r ∷ []))) rest
    ∙ elim (r.number == n) as (λ b.
    (r.number == n) ≡ b
    → option_or (find_row n rs) (cond b (Some r) None) ≡ cond b (Some r) (find_row n rs)) [
      | true ↦ λ here. ap (λ o. option_or o (Some r)) (row-none n r rs rising here)
      | false ↦ λ _. or_nothing (find_row n rs)
    ] refl

filter-reverse : (p : Row → Bool) (rs : List Row) → filter p (reverse rs) ≡ reverse (filter p rs)
filter-reverse p [] = refl
filter-reverse p (r ∷ rs) =
    ap (filter p) (reverse-append (r ∷ []) rs) ∙ filter-append p (reverse rs) (r ∷ [])
    ∙ ap (λ (xs : List Row). xs ++ filter p (r ∷ [])) (filter-reverse p rs)
    ∙ elim (p r) as (λ b.
    reverse (filter p rs) ++ cond b (r ∷ []) [] ≡ reverse (cond b (r ∷ filter p rs) (filter p rs))) [
      | true ↦ sym (reverse-append (r ∷ []) (filter p rs))
      | false ↦ append-nil (reverse (filter p rs))
    ]

-- ---- listings

same_front : {a b : Row} {xs ys : List Row} → a ≡ b → xs ≡ ys → a ∷ xs ≡ b ∷ ys
same_front p q = cc

rows-without : (gone : List ℕ) (copies : List (ℕ × Copy))
    → map copy_row (copies_without gone copies) ≡ without gone (map copy_row copies)
rows-without gone [] = refl
rows-without gone (c ∷ copies) =
    let rest = rows-without gone copies in
    let left = copies_without gone copies in
    elim (is_one_of gone c.0) as (λ b.
    map copy_row (cond (not b) (c ∷ left) left)
    ≡ cond (not b) (copy_row c ∷ without gone (map copy_row copies)) (without gone (map copy_row copies))) [
      | true ↦ rest
      | false ↦ same_front refl rest
    ]

row-moded : (n : ℕ) (mode : Mode) (c : ℕ × Copy)
    → copy_row (c.0, moded n mode c.0 c.1) ≡ row_with_mode n mode (copy_row c)
row-moded n mode c =
    elim (c.0 == n) as (λ b.
    copy_row (c.0, (let d : Copy = cond b (record c.1 { mode = mode }) c.1 in d))
    ≡ cond b (let r : Row = record (copy_row c) { mode = mode } in r) (copy_row c)) [
      | true ↦ refl
      | false ↦ refl
    ]

rows-moded : (n : ℕ) (mode : Mode) (copies : List (ℕ × Copy))
    → map copy_row (copies_with_mode n mode copies) ≡ with_mode n mode (map copy_row copies)
rows-moded n mode [] = refl
rows-moded n mode (c ∷ copies) = same_front (row-moded n mode c) (rows-moded n mode copies)

pub rows_follow_removals : RowsFollowRemovals
rows_follow_removals w gone = rows-without gone w.copies

pub rows_follow_modes : RowsFollowModes
rows_follow_modes w n mode = rows-moded n mode w.copies

pub rows_tell_of_copies : RowsTellOfCopies
rows_tell_of_copies w n = find_row-copies w.copies n

pub listings_show_selected : ListingsShowSelected
listings_show_selected w options n world all =
    let rs = rows w in
    let p = is_shown options in
    let rising = rising-rows w.copies world.numbers_rise in
    ap (λ count. find_row n (at_most count (filter p (in_direction options.reverse rs)))) all
    ∙ elim options.reverse as (λ b.
    find_row n (filter p (in_direction b rs)) ≡ where_passes p (find_row n rs)) [
      | true ↦
          ap (find_row n) (filter-reverse p rs) ∙ row-reverse n (filter p rs) (rising-filter p rs rising)
          ∙ row-filter p n rs rising
      | false ↦ row-filter p n rs rising
    ]

pub listings_are_in_order : ListingsAreInOrder
listings_are_in_order w options world all =
    let rs = rows w in
    let p = is_shown options in
    let rising = rising-filter p rs (rising-rows w.copies world.numbers_rise) in
    ap (λ count.
    are_numbers_rising
    (in_direction options.reverse (at_most count (filter p (in_direction options.reverse rs)))))
    all
    ∙ elim options.reverse as (λ b.
    are_numbers_rising (in_direction b (filter p (in_direction b rs))) ≡ true) [
      | true ↦
          ap are_numbers_rising (ap reverse (filter-reverse p rs) ∙ reverse-reverse (filter p rs)) ∙ rising
      | false ↦ rising
    ]

pub listings_end_at_count : ListingsEndAtCount
listings_end_at_count w options count is =
    ap (λ c. at_most c (filter (is_shown options) (in_direction options.reverse (rows w)))) is
