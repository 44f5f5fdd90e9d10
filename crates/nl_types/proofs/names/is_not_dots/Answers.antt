use Rattle.std.proofs.Common.{[], ◌∷◌, arith}
use Rattle.std.proofs.lemmas.Grind.{common_steps}
use Rattle.std.proofs.lemmas.Map.Text.{is_eq-slice_cmp}
use Rattle.nl_types.proofs.names.is_not_dots.Goals as goal

pub returns-then-ne : goal.returns-then-ne
returns-then-ne c =
    rw (is_eq-slice_cmp c.args.name.now (46 ∷ []), is_eq-slice_cmp c.args.name.now (46 ∷ 46 ∷ []))
    (grind (arith, common_steps))
