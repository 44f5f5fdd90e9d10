-- What a listing shows at most.
use Rattle.std.proofs.Common.{◌≡◌, ℕ, ◌+◌, ◌≤◌, true, false, Bool, cond, List, [], ◌∷◌, ◌++◌, length, reverse, take, refl, sym, ap, ◌∙◌, arith}
use Rattle.std.proofs.lemmas.List.{length-reverse, reverse-append}
use Rattle.std.specs.List.{filter}
use Rattle.nl_types.specs.declared.row.ListOptions.{ListOptions}
use Rattle.nl_types.specs.declared.row.Row.{Row}
use Rattle.nl_types.specs.Plain.Rows.{at_most, in_direction, is_shown, listing}
use Rattle.nl_cpfile.specs.declared.checkpoint.Checkpoint.{Checkpoint}
use Rattle.nl_cpfile.specs.Tables.{checkpoint_row, rows_of}
use Rattle.nl_cpfile.specs.Facts.Rising.{map-push}

filter-shorter : (p : Row → Bool) (rows : List Row) → length (filter p rows) ≤ length rows
filter-shorter p [] = omega arith
filter-shorter p (row ∷ rows) =
    let rest = filter-shorter p rows in
    elim (p row) as (λ b. length (cond b (row ∷ filter p rows) (filter p rows)) ≤ length (row ∷ rows)) [
      | true ↦ omega (arith, rest)
      | false ↦ omega (arith, rest)
    ]

-- `most` is as good as the count for this many rows
abbrev IsMostOf : ListOptions → ℕ → ℕ → Type 0
IsMostOf options kept most =
    (rows : List Row) → length rows ≤ kept → at_most options.count rows ≡ take most rows

take-shown : (options : ListOptions) (kept most : ℕ) → IsMostOf options kept most → (rows : List Row)
    → length rows ≤ kept
    → take most (filter (is_shown options) rows) ≡ at_most options.count (filter (is_shown options) rows)
take-shown options kept most same rows few =
    let fewer = filter-shorter (is_shown options) rows in
    sym (same (filter (is_shown options) rows) (omega (arith, few, fewer)))

length-rows_of : (earlier : List Checkpoint) (latest : Checkpoint)
    → length (rows_of (earlier ++ latest ∷ [])) ≡ length earlier + 1
length-rows_of [] latest = refl
length-rows_of (c ∷ earlier) latest = let rest = length-rows_of earlier latest in omega (arith, rest)

-- ---- the other way round

rows_of-reverse : (kept : List Checkpoint) → rows_of (reverse kept) ≡ reverse (rows_of kept)
rows_of-reverse [] = refl
rows_of-reverse (c ∷ kept) =
    ap rows_of (reverse-append (c ∷ []) kept) ∙ map-push checkpoint_row (reverse kept) c
    ∙ ap (λ (rows : List Row). rows ++ checkpoint_row c ∷ []) (rows_of-reverse kept)
    ∙ sym (reverse-append (checkpoint_row c ∷ []) (rows_of kept))

rows_of-reversed : (earlier : List Checkpoint) (latest : Checkpoint)
    → rows_of ((latest ∷ []) ++ reverse earlier) ≡ reverse (rows_of (earlier ++ latest ∷ []))
rows_of-reversed earlier latest =
    ap rows_of (sym (reverse-append earlier (latest ∷ []))) ∙ rows_of-reverse (earlier ++ latest ∷ [])

-- ---- both ways

module _ (options : ListOptions) (earlier : List Checkpoint) (latest : Checkpoint) (most : ℕ)
    (is : IsMostOf options (length earlier + 1) most) where
  length-in_direction : (reversed : Bool)
      → length (in_direction reversed (rows_of (earlier ++ latest ∷ []))) ≡ length earlier + 1
  length-in_direction false = length-rows_of earlier latest
  length-in_direction true = length-reverse (rows_of (earlier ++ latest ∷ [])) ∙ length-rows_of earlier latest

  shown : (reversed : Bool) → options.reverse ≡ reversed
      → take most (filter (is_shown options) (in_direction reversed (rows_of (earlier ++ latest ∷ []))))
      ≡ listing options (rows_of (earlier ++ latest ∷ []))
  shown reversed direction =
      let rows : List Row = in_direction reversed (rows_of (earlier ++ latest ∷ [])) in
      let many = length-in_direction reversed in
      take-shown options (length earlier + 1) most is rows (omega (arith, many))
      ∙ ap (λ b.
      at_most options.count (filter (is_shown options) (in_direction b (rows_of (earlier ++ latest ∷ [])))))
      (sym direction)

  pub shown-ascending : options.reverse ≡ false
      → take most (filter (is_shown options) (rows_of (earlier ++ latest ∷ [])))
      ≡ listing options (rows_of (earlier ++ latest ∷ []))
  shown-ascending direction = shown false direction

  pub shown-descending : options.reverse ≡ true
      → take most (filter (is_shown options) (rows_of ((latest ∷ []) ++ reverse earlier)))
      ≡ listing options (rows_of (earlier ++ latest ∷ []))
  shown-descending direction =
      ap (λ (rows : List Row). take most (filter (is_shown options) rows)) (rows_of-reversed earlier latest)
      ∙ shown true direction
