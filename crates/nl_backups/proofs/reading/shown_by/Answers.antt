use Rattle.std.proofs.lemmas.Result.{err_from_is_err_and}
use Rattle.nl_backups.proofs.PassedOn.{look_refused}
use Rattle.nl_backups.proofs.ShownTrees.{from_ordered, shows_from}
use Rattle.nl_backups.proofs.reading.shown_by.Goals as goal

pub returns-in_err-tree-clause-refused : goal.returns-in_err-tree-clause-refused
returns-in_err-tree-clause-refused c =
    let p = err_from_is_err_and c.from_residual.result c.from_residual.ensures.1 in
    rw (p.1, p.2)
    (λ image of.
    look_refused c.args.number image c.in_err-tree.field-0.0 (record {
      pen = c.args.volume.now.volume.pen;
      opened = of;
      refuses = c.in_err-tree.ensures.refused;
    }))

pub returns-clause-shows : goal.returns-clause-shows
returns-clause-shows c image of =
    shows_from c.in_ok-tree.tree c.in_ok-opened.opened.tree image c.in_ok-opened.ensures.shows c.args.number
    (c.in_ok-tree.ensures.tree image of)

pub returns-clause-ordered : goal.returns-clause-ordered
returns-clause-ordered c image of =
    from_ordered c.in_ok-tree.tree c.in_ok-opened.opened.tree image c.in_ok-opened.ensures.shows c.args.number
    c.args.volume.now.volume.pen of (c.in_ok-tree.ensures.tree image of)
