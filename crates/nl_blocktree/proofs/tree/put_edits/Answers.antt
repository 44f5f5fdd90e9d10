use Rattle.std.proofs.Common.{◌∙◌, ◌%◌, arith}
use Rattle.std.proofs.lemmas.List.{length-set}
use Rattle.nl_blocktree.proofs.TreeSlots.{slots_more}
use Rattle.nl_blocktree.proofs.tree.put_edits.Goals as goal

pub loop-edit-preserved : goal.loop-edit-preserved
loop-edit-preserved c = record {
  count =
      length-set c.loop-edit.slots (c.edit-item.result.offset % 128) c.edit-item.result.number
      ∙ c.loop-edit.invariant.count;
  slots =
      slots_more c.loop-edit.slots c.args.slots.now c.args.group.now c.loop-edit.edit-index c.args.offset
      c.edit-item.result c.loop-edit.invariant.count c.requires.ascending c.requires.grouped
      (omega arith) c.edit-item.is c.loop-edit.invariant.slots;
}
