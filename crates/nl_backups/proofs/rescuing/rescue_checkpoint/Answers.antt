use Rattle.std.proofs.Common.{sym, ◌∙◌}
use Rattle.nl_backups.proofs.WholeRescues.{not_empty, shows_whole}
use Rattle.nl_backups.proofs.rescuing.rescue_checkpoint.Goals as goal

pub returns-then-is_empty-clause-whole : goal.returns-then-is_empty-clause-whole
returns-then-is_empty-clause-whole c tree has nameable =
    let whole = c.in_ok-tree.ensures.whole tree has nameable in
    not_empty c.in_ok-tree.field-0.tree tree (sym c.is_empty.ensures ∙ c.if-is_empty.true) whole.read nameable

pub returns-clause-whole : goal.returns-clause-whole
returns-clause-whole c tree has nameable =
    let whole = c.in_ok-tree.ensures.whole tree has nameable in
    shows_whole c.in_ok-tree.field-0.tree tree c.from_vec.result c.in_ok-rescued.rescued c.in_ok-rescued.ensures.shows
    c.in_ok-rescued.ensures.lost whole.read (c.from_vec.ensures ∙ whole.none_lost) nameable
