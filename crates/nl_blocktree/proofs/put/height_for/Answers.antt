use Rattle.std.proofs.Common.{◌^◌, ap, arith}
use Rattle.nl_blocktree.specs.declared.tree.Edit.{Edit}
use Rattle.nl_blocktree.specs.Facts.TreeLevels.{pow_rises}
use Rattle.nl_blocktree.proofs.TreeSlots.{all_below}
use Rattle.nl_blocktree.proofs.put.height_for.Goals as goal

pub returns-then-least-old-clause-room : goal.returns-then-least-old-clause-room
returns-then-least-old-clause-room c =
    let r = c.index-edits-edits.result in
    let e = ap (λ (x : Edit). x.offset) c.index-edits-edits.is in
    let l = c.least_height-least.ensures.room in
    let p = pow_rises c.least_height-least.result c.old_height-old.result (omega arith) in
    all_below c.args.edits.now (128 ^ c.old_height-old.result) r c.requires.ascending (omega (arith, e, l, p))

pub returns-else-least-old-clause-room : goal.returns-else-least-old-clause-room
returns-else-least-old-clause-room c =
    let r = c.index-edits-edits.result in
    let e = ap (λ (x : Edit). x.offset) c.index-edits-edits.is in
    let l = c.least_height-least.ensures.room in
    all_below c.args.edits.now (128 ^ c.least_height-least.result) r c.requires.ascending
    (omega (arith, e, l))
