use Rattle.std.proofs.Common.{◌∙◌, ap, sym, true≢false}
use Rattle.nl_folders.specs.Differences.{rising}
use Rattle.nl_folders.proofs.Walks.{sorted_rising, walked_all}
use Rattle.nl_folders.proofs.folder.whole_tree.Goals as goal

pub returns-then-is_in_order-clause-whole : goal.returns-then-is_in_order-clause-whole
returns-then-is_in_order-clause-whole g c tree t shows =
    walked_all tree c.in_ok-tree.tree (c.in_ok-tree.ensures.walk tree t shows)

pub returns-else-is_in_order-clause-refused : goal.returns-else-is_in_order-clause-refused
returns-else-is_in_order-clause-refused g c tree t shows =
    let all = walked_all tree c.in_ok-tree.tree (c.in_ok-tree.ensures.walk tree t shows) in
    absurd (true≢false
    (sym (ap rising (c.as_slice.ensures ∙ all) ∙ sorted_rising tree t.ordered)
    ∙ sym c.is_in_order.ensures ∙ c.if-is_in_order.false))
