use Rattle.std.proofs.Common.{◌∙◌, ◌%◌, ap, sym}
use Rattle.nl_types.specs.Blocks.Roots.{child}
use Rattle.nl_blocktree.proofs.TreeAbove.{above_step, below_step, on_way}
use Rattle.nl_blocktree.proofs.path.+path_below.Goals as goal

pub returns-clause-number : goal.returns-clause-number
returns-clause-number g t c =
    let pages = g.V.VRead.pages c.args.store.now in
    c.step_down.ensures.number ∙ (c.child_of-number.ensures
    ∙ (ap (child pages (c.args.offset % 128)) c.path_below-node.ensures.number
    ∙ sym (below_step pages c.args.top c.args.levels c.args.offset c.if-levels-eq0.false)))

pub returns-clause-above : goal.returns-clause-above
returns-clause-above g t c =
    let pages = g.V.VRead.pages c.args.store.now in
    c.step_down.ensures.above
    ∙ (on_way c.path_below-node.ensures.number c.path_below-node.ensures.above
    ∙ sym (above_step pages c.args.top c.args.levels c.args.offset c.if-levels-eq0.false))
