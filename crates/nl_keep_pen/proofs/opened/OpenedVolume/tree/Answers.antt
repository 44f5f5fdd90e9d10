use Rattle.std.proofs.lemmas.Result.{err_from_is_err_and}
use Rattle.nl_keep_pen.proofs.Images.{read_refused, reads_from_image}
use Rattle.nl_keep_pen.proofs.opened.OpenedVolume.tree.Goals as goal

pub returns-clause-tree : goal.returns-clause-tree
returns-clause-tree c image of =
    reads_from_image c.pens_of_one_image_mean_one_world.ensures image c.args.self.now.volume.pen of c.args.number
    c.in_ok-tree.tree c.in_ok-tree.ensures.tree

pub returns-in_err-tree-clause-refused : goal.returns-in_err-tree-clause-refused
returns-in_err-tree-clause-refused c =
    let p = err_from_is_err_and c.from_residual.result c.from_residual.ensures.1 in
    rw p.1 (λ w means.
    read_refused c.args.number w c.in_err-tree.field-0.0 p.0 p.2 (c.in_err-tree.ensures.missing w means)
    (λ copy kept. c.in_err-tree.ensures.refused w copy means kept))
