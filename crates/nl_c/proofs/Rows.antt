-- An array, as its places are written from the first on.
use Rattle.std.proofs.Common.{◌≡◌, ℕ, ◌+◌, ◌<◌, ◌≤◌, List, [], ◌∷◌, ◌++◌, length, map, take, drop, refl, sym, ap, ◌∙◌, arith, slice_index_or, slice_set}
use Rattle.std.proofs.lemmas.List.{append_assoc, drop_more, get_or-map, length-map, length-take-le, set_at, take_more}
use Rattle.nl_types.specs.declared.row.Row.{Row}
use Rattle.nl_c.specs.Copying.{row_told}
use Rattle.nl_c.specs.declared.copying.CheckpointRow.{CheckpointRow}

-- one place more is written
place_more : {A : Type 0} (xs array : List A) (i : ℕ) (x : A) → i < length xs → i < length array
    → slice_index_or xs i x ≡ x → slice_set (take i xs ++ drop i array) i x ≡ take (i + 1) xs ++ drop (i + 1) array
place_more xs array i x here there is =
    ap (λ zs. slice_set (take i xs ++ zs) i x) (drop_more array i x there)
    ∙ (set_at (take i xs) (slice_index_or array i x) (drop (i + 1) array) x i (length-take-le i xs (omega arith))
    ∙ (sym (append_assoc (take i xs) (x ∷ []) (drop (i + 1) array))
    ∙ ap (λ zs. zs ++ drop (i + 1) array) (sym (take_more xs i x here ∙ ap (λ z. take i xs ++ z ∷ []) is))))

-- and one row more told
pub row_more : (rows : List Row) (array : List CheckpointRow) (i : ℕ) (row : Row)
    → i < length rows → i < length array → row ≡ slice_index_or rows i row
    → slice_set (take i (map row_told rows) ++ drop i array) i (row_told row)
    ≡ take (i + 1) (map row_told rows) ++ drop (i + 1) array
row_more rows array i row here there is =
    place_more (map row_told rows) array i (row_told row)
    (let e : length (map row_told rows) ≡ length rows = length-map rows row_told in omega (arith, e)) there
    (get_or-map row_told rows i row (row_told row) here ∙ ap row_told (sym is))
