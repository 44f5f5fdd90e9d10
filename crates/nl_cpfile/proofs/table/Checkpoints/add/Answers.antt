use Rattle.std.proofs.Common.{◌∙◌, ◌∷◌, ◌++◌, [], ap, sym, subst}
use Rattle.nl_cpfile.specs.declared.checkpoint.Checkpoint.{Checkpoint}
use Rattle.nl_cpfile.specs.Inside.{table_of}
use Rattle.nl_cpfile.specs.Tables.{ComesNext, IsTable, RoomyTable}
use Rattle.nl_cpfile.specs.Facts.Rising.{same_table, with_next-IsTable}
use Rattle.nl_cpfile.proofs.table.Checkpoints.add.Goals as goal

pub invariant_of-self : goal.invariant_of-self
invariant_of-self c =
    let t = table_of c.self.inside in
    let next : ComesNext c.args.checkpoint t =
    subst (λ (r : RoomyTable). ComesNext c.args.checkpoint r.table)
    (sym c.self.view_is) c.requires.next in
    let pushed =
    c.push.ensures.items
    ∙ ap (λ (x : Checkpoint). t.earlier ++ x ∷ []) c.replace-replaced.ensures.value in
    subst IsTable (sym (same_table pushed c.replace-replaced.ensures.after))
    (with_next-IsTable c.args.checkpoint t c.self.invariant next)
