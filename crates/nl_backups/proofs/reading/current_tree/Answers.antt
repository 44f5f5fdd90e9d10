use Rattle.std.proofs.lemmas.Result.{err_from_is_err_and}
use Rattle.nl_backups.proofs.OneWorld.{has_current}
use Rattle.nl_backups.proofs.PassedOn.{look_refused}
use Rattle.nl_backups.proofs.reading.current_tree.Goals as goal

pub returns-clause-tree : goal.returns-clause-tree
returns-clause-tree c image of =
    has_current c.pens_of_one_image_mean_one_world.ensures image c.args.volume.now.volume.pen of
    c.latest-latest.result c.in_ok-tree.tree
    (λ w means. c.latest-latest.ensures.world w (rw c.volume.ensures means))
    (c.in_ok-tree.ensures.tree image of)

pub returns-in_err-tree-clause-refused : goal.returns-in_err-tree-clause-refused
returns-in_err-tree-clause-refused c =
    let p = err_from_is_err_and c.from_residual.result c.from_residual.ensures.1 in
    rw (p.1, p.2)
    (λ image of.
    look_refused c.latest-latest.result image c.in_err-tree.field-0.0 (record {
      pen = c.args.volume.now.volume.pen;
      opened = of;
      refuses = c.in_err-tree.ensures.refused;
    }))
