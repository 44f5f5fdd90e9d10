-- The checkpoints that stay, by rows and by numbers.
use Rattle.std.proofs.Common.{◌≡◌, Bool, true, false, cond, ◌||◌, List, [], ◌∷◌, refl, ap, ◌∙◌}
use Rattle.std.proofs.Math.Dec.{leb-zero}
use Rattle.std.specs.Prelude.{map}
use Rattle.std.specs.List.{filter}
use Rattle.nl_types.specs.Plain.Protection.{is_staying, staying_numbers}
use Rattle.nl_types.specs.Plain.Rows.{is_snapshot, number_of}
use Rattle.nl_cpfile.specs.Tables.{checkpoint_row, rows_of}
use Rattle.nl_cpfile.specs.declared.checkpoint.Checkpoint.{Checkpoint}

or-true : (b : Bool) → (b || true) ≡ true
or-true true = refl
or-true false = refl

-- from number 0 on all stay
stays : (c : Checkpoint) → is_staying 0 (checkpoint_row c) ≡ true
stays c = ap (λ b. is_snapshot c.mode || b) (leb-zero c.number) ∙ or-true (is_snapshot c.mode)

pub staying-all : (kept : List Checkpoint) → staying_numbers 0 (rows_of kept) ≡ map (λ c. c.number) kept
staying-all [] = refl
staying-all (c ∷ kept) =
    ap (λ b.
    map number_of (cond b (checkpoint_row c ∷ filter (is_staying 0) (rows_of kept))
    (filter (is_staying 0) (rows_of kept))))
    (stays c)
    ∙ ap (λ ns. c.number ∷ ns) (staying-all kept)
