use Rattle.std.proofs.Common.{◌∙◌, ap, Some}
use Rattle.nl_layout.proofs.Slots.{length-Spells, slots-Spells}
use Rattle.nl_layout.proofs.node.Node.read.Goals as goal

pub returns-then-bytes-ne-BLOCK_SIZE-clause-only : goal.returns-then-bytes-ne-BLOCK_SIZE-clause-only
returns-then-bytes-ne-BLOCK_SIZE-clause-only c = λ slots spells.
    absurd (c.if-bytes-ne-BLOCK_SIZE.true (length-Spells c.args.bytes.now slots spells))

pub returns-clause-only : goal.returns-clause-only
returns-clause-only c = λ slots spells.
    ap Some (c.slots_in.ensures.slots ∙ slots-Spells c.args.bytes.now slots spells)
