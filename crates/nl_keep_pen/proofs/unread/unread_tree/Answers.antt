use Rattle.std.proofs.lemmas.Result.{err_from_is_err_and}
use Rattle.nl_manifests.specs.Unread.{unread}
use Rattle.nl_keep_pen.specs.Facts.UnreadTrees.{unread_is_tree}
use Rattle.nl_keep_pen.proofs.UnreadAnswers.{kept_refused, refuses_whole, shows_unread}
use Rattle.nl_keep_pen.proofs.unread.unread_tree.Goals as goal

pub returns-clause-tree : goal.returns-clause-tree
returns-clause-tree g c w copy means kept =
    let is_tree = (g.met.V.Volume.sound c.args.volume.now w means).trees c.args.number copy kept in
    c.in_ok-tree.ensures.whole (unread copy.tree) (unread_is_tree copy.tree is_tree)
    (shows_unread c.args.number (g.V.Volume.means c.args.volume.now) w copy means kept is_tree)

pub returns-in_err-judge_kept-clause-refused : goal.returns-in_err-judge_kept-clause-refused
returns-in_err-judge_kept-clause-refused g c =
    let p = err_from_is_err_and c.from_residual.result c.from_residual.ensures.1 in
    rw (p.1, p.2) (λ w copy means kept.
    kept_refused c.args.number c.in_err-judge_kept.field-0.0 w copy kept
    (c.in_err-judge_kept.ensures.refused w means))

pub returns-in_err-tree-clause-refused : goal.returns-in_err-tree-clause-refused
returns-in_err-tree-clause-refused g c =
    let exits = c.from_residual-in_err-tree in
    let p = err_from_is_err_and exits.result exits.ensures.1 in
    rw (p.1, p.2) (λ w copy means kept.
    let is_tree = (g.met.V.Volume.sound c.args.volume.now w means).trees c.args.number copy kept in
    refuses_whole copy.tree c.in_err-tree.field-0.0
    (c.in_err-tree.ensures.refused (unread copy.tree) (unread_is_tree copy.tree is_tree)
    (shows_unread c.args.number (g.V.Volume.means c.args.volume.now) w copy means kept is_tree)))
