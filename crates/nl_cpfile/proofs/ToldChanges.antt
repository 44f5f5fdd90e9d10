-- What is told of all checkpoints once the table has changed.
use Rattle.std.proofs.Common.{◌≡◌, ℕ, eqb, cond, true, false, not, List, [], ◌∷◌, ◌++◌, map, refl, sym, ap}
use Rattle.std.specs.List.{filter}
use Rattle.nl_types.specs.declared.event.Mode.{Mode}
use Rattle.nl_cpfile.specs.declared.checkpoint.Checkpoint.{Checkpoint}
use Rattle.nl_types.specs.declared.row.Row.{Row}
use Rattle.nl_types.specs.Plain.Rows as told
use Rattle.nl_types.specs.Plain.NumberLists.{is_one_of}
use Rattle.nl_types.specs.Plain.Rows.{row_with_mode}
use Rattle.nl_cpfile.specs.Tables.{Table, is_kept_without, moded, checkpoint_row, rows, rows_of, with_mode, without}

row-moded : (n : ℕ) (mode : Mode) (c : Checkpoint)
    → checkpoint_row (moded n mode c) ≡ row_with_mode n mode (checkpoint_row c)
row-moded n mode c =
    elim (eqb c.number n) as (λ b.
    checkpoint_row (cond b (record c { mode = mode }) c)
    ≡ cond b (let r : Row = record (checkpoint_row c) { mode = mode } in r) (checkpoint_row c)) [
      | true ↦ refl
      | false ↦ refl
    ]

same_front : {a b : Row} {xs ys : List Row} → a ≡ b → xs ≡ ys → a ∷ xs ≡ b ∷ ys
same_front p q = cc

rows_of-moded : (n : ℕ) (mode : Mode) (kept : List Checkpoint) (c : Checkpoint)
    → rows_of (map (moded n mode) kept ++ moded n mode c ∷ [])
    ≡ told.with_mode n mode (rows_of (kept ++ c ∷ []))
rows_of-moded n mode [] c = same_front (row-moded n mode c) refl
rows_of-moded n mode (x ∷ kept) c = same_front (row-moded n mode x) (rows_of-moded n mode kept c)

pub rows-with_mode : (n : ℕ) (mode : Mode) (t : Table)
    → rows (with_mode n mode t) ≡ told.with_mode n mode (rows t)
rows-with_mode n mode t = rows_of-moded n mode t.earlier t.latest

rows_of-without : (gone : List ℕ) (kept : List Checkpoint) (c : Checkpoint) → is_one_of gone c.number ≡ false
    → rows_of (filter (is_kept_without gone) kept ++ c ∷ []) ≡ told.without gone (rows_of (kept ++ c ∷ []))
rows_of-without gone [] c stays = sym (ap (λ b. cond (not b) (checkpoint_row c ∷ []) []) stays)
rows_of-without gone (x ∷ kept) c stays =
    let rest = rows_of-without gone kept c stays in
    let left : List Checkpoint = filter (is_kept_without gone) kept in
    elim (is_one_of gone x.number) as (λ b.
    rows_of (cond (not b) (x ∷ left) left ++ c ∷ [])
    ≡ cond (not b) (checkpoint_row x ∷ told.without gone (rows_of (kept ++ c ∷ [])))
    (told.without gone (rows_of (kept ++ c ∷ [])))) [
      | true ↦ rest
      | false ↦ same_front refl rest
    ]

-- where the latest checkpoint isn't among those that leave
pub rows-without : (gone : List ℕ) (t : Table) → is_one_of gone t.latest.number ≡ false
    → rows (without gone t) ≡ told.without gone (rows t)
rows-without gone t stays = rows_of-without gone t.earlier t.latest stays
