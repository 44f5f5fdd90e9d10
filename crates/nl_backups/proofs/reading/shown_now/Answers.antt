use Rattle.nl_backups.proofs.ShownTrees.{now_ordered, shows_now}
use Rattle.nl_backups.proofs.reading.shown_now.Goals as goal

pub returns-clause-shows : goal.returns-clause-shows
returns-clause-shows c image of =
    shows_now c.in_ok-tree.tree c.in_ok-shown.shown.tree image c.in_ok-shown.ensures.shows
    (c.in_ok-tree.ensures.tree image of)

pub returns-clause-ordered : goal.returns-clause-ordered
returns-clause-ordered c image of =
    now_ordered c.in_ok-tree.tree c.in_ok-shown.shown.tree image c.in_ok-shown.ensures.shows
    c.args.volume.now.volume.pen of (c.in_ok-tree.ensures.tree image of)
