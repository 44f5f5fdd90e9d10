use Rattle.std.proofs.lemmas.Result.{err_from_is_err_and}
use Rattle.nl_keep.proofs.Steps.{checkpoint_read, kept_refused, shows_kept}
use Rattle.nl_keep.proofs.trees.checkpoint_tree.Goals as goal

pub returns-clause-tree : goal.returns-clause-tree
returns-clause-tree g c =
    checkpoint_read c.args.number c.in_ok-tree.tree (g.V.Volume.means c.args.volume.now)
    (g.met.V.Volume.sound c.args.volume.now) c.in_ok-judge_kept.ensures.kept c.in_ok-tree.ensures.whole

pub returns-in_err-judge_kept-clause-refused : goal.returns-in_err-judge_kept-clause-refused
returns-in_err-judge_kept-clause-refused g c =
    let p = err_from_is_err_and c.from_residual.result c.from_residual.ensures.1 in
    rw (p.1, p.2) (λ w copy means kept.
    kept_refused c.args.number c.in_err-judge_kept.field-0.0 w copy kept
    (c.in_err-judge_kept.ensures.refused w means))

pub returns-in_err-tree-clause-refused : goal.returns-in_err-tree-clause-refused
returns-in_err-tree-clause-refused g c =
    let exits = c.from_residual-in_err-tree in
    let p = err_from_is_err_and exits.result exits.ensures.1 in
    rw (p.1, p.2) (λ w copy means kept.
    let is_tree = (g.met.V.Volume.sound c.args.volume.now w means).trees c.args.number copy kept in
    c.in_err-tree.ensures.refused copy.tree is_tree
    (shows_kept c.args.number (g.V.Volume.means c.args.volume.now) w copy means kept is_tree))
