use Rattle.std.proofs.Common.{◌∙◌, [], ◌∷◌, List, ap, subst, sym}
use Rattle.std.specs.List.{filter}
use Rattle.nl_cpfile.specs.declared.checkpoint.Checkpoint.{Checkpoint}
use Rattle.nl_cpfile.specs.Tables.{IsRising, rows}
use Rattle.nl_protect.specs.Keeping.{first_plain, is_before}
use Rattle.nl_protect.proofs.Expiring.{expired-first}
use Rattle.nl_protect.proofs.Gone.{first-low}
use Rattle.nl_protect.proofs.Kept.{rising-front}
use Rattle.nl_protect.proofs.protection.first_expiring.Goals as goal

pub ending_before-requires : goal.ending_before-requires
ending_before-requires c =
    let t = c.args.kept.now.table in
    subst IsRising (sym c.earlier.ensures.earlier)
    (rising-front t.earlier (t.latest ∷ []) c.earlier.ensures.table.rising)

pub returns-clause-first : goal.returns-clause-first
returns-clause-first c =
    let t = c.args.kept.now.table in
    c.first_plain.ensures
    ∙ ap first_plain
    (c.ending_before.ensures
    ∙ ap (λ (xs : List Checkpoint). filter (is_before c.args.boundary) xs) c.earlier.ensures.earlier)
    ∙ sym (expired-first c.args.boundary t.latest t.earlier c.earlier.ensures.table.rising)

pub returns-clause-low : goal.returns-clause-low
returns-clause-low c =
    let t = c.args.kept.now.table in
    first-low c.args.boundary t.latest.number (rows t) c.first_plain.result (returns-clause-first c)
