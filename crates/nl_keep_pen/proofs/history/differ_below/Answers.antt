use Rattle.std.proofs.Common.{ap, ◌∙◌}
use Rattle.nl_keep_pen.specs.History.{any_within}
use Rattle.nl_keep_pen.proofs.Changes.{are_below, same_agree}
use Rattle.nl_keep_pen.proofs.history.differ_below.Goals as goal

pub returns-clause-differ : goal.returns-clause-differ
returns-clause-differ g c w means kept =
    are_below w c.args.old c.args.new c.args.top.now c.in_ok-told.told.all c.is_any_within.result
    (c.is_any_within.ensures ∙ ap (any_within c.args.top.now) c.as_slice.ensures)
    (λ path. c.in_ok-told.ensures.differ w path means)

pub returns-then-is_same_tree-clause-differ : goal.returns-then-is_same_tree-clause-differ
returns-then-is_same_tree-clause-differ g c w means kept =
    let same = c.is_same_tree.ensures.same c.if-is_same_tree.true w means in
    same_agree w c.args.old c.args.new c.args.top.now same.0 same.1 same.2 same.3 same.4
