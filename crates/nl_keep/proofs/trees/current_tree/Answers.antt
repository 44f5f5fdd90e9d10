use Rattle.std.proofs.lemmas.Result.{err_from_is_err_and}
use Rattle.nl_keep.proofs.Steps.{current_read, shows_current}
use Rattle.nl_keep.proofs.trees.current_tree.Goals as goal

pub returns-clause-tree : goal.returns-clause-tree
returns-clause-tree g c =
    current_read c.in_ok-tree.tree (g.V.Volume.means c.args.volume) (g.met.V.Volume.sound c.args.volume)
    c.in_ok-tree.ensures.whole

pub returns-in_err-tree-clause-refused : goal.returns-in_err-tree-clause-refused
returns-in_err-tree-clause-refused g c =
    let p = err_from_is_err_and c.from_residual.result c.from_residual.ensures.1 in
    rw (p.1, p.2) (λ w means.
    let is_tree = (g.met.V.Volume.sound c.args.volume w means).tree in
    c.in_err-tree.ensures.refused w.tree is_tree
    (shows_current (g.V.Volume.means c.args.volume) w means is_tree))
