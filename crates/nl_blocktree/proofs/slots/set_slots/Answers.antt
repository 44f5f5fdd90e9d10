use Rattle.std.proofs.Common.{◌≡◌, ◌<◌, ◌∙◌, length, get_or, arith, ap, sym}
use Rattle.std.proofs.lemmas.List.{length-set}
use Rattle.nl_blocktree.specs.declared.tree.Edit.{Edit}
use Rattle.nl_blocktree.proofs.TreeSlots.{set_more}
use Rattle.nl_blocktree.proofs.slots.set_slots.Goals as goal

pub loop-edit-preserved : goal.loop-edit-preserved
loop-edit-preserved c =
    let k = c.loop-edit.edit-index in
    let x = c.edit-item.result in
    let within : k < length c.args.edits.now = omega arith in
    let here : get_or c.args.edits.now k x ≡ x = sym c.edit-item.is in
    let low = c.requires.room k x within in
    let e = ap (λ (y : Edit). y.offset) here in
    let count = c.loop-edit.invariant.count in
    record {
      count = length-set c.loop-edit.slots x.offset x.number ∙ c.loop-edit.invariant.count;
      slots =
          set_more c.loop-edit.slots c.args.slots.now c.args.edits.now k x c.requires.ascending within
          c.edit-item.is
          (omega (arith, low, e, count)) c.loop-edit.invariant.slots;
    }
