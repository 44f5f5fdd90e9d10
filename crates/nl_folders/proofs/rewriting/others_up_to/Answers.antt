use Rattle.std.proofs.Common.{false, sym, ◌∙◌}
use Rattle.nl_folders.proofs.FileBytes.{blocks_more}
use Rattle.nl_folders.proofs.rewriting.others_up_to.Goals as goal

pub loop-block-preserved : goal.loop-block-preserved
loop-block-preserved c =
    blocks_more false c.args.old.now c.args.new.now c.args.from c.loop-block.block c.loop-block.invariant
    (sym c.block_stands.ensures ∙ c.if-block_stands.false)
