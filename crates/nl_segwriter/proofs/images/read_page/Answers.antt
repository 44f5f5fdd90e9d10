use Rattle.std.proofs.Common.{◌∙◌, ap, sym, Some, arith}
use Rattle.nl_types.specs.Blocks.Segments.{total_blocks}
use Rattle.nl_vstore.specs.FactsOfSpace.ImageBlocks.{page_part}
use Rattle.nl_segwriter.proofs.images.read_page.Goals as goal

pub returns-clause-used : goal.returns-clause-used
returns-clause-used c = λ used.
    ap Some c.in_ok-page.ensures
    ∙ sym (page_part c.args.blocks.now
    (total_blocks c.args.table.now) c.args.number _ c.requires.size c.requires.inside (omega arith))
