use Rattle.std.proofs.Common.{subst, sym, arith}
use Rattle.nl_types.specs.Blocks.Segments.{IsUsed, total_blocks}
use Rattle.nl_vstore.specs.Images.{pages_of_bytes}
use Rattle.nl_vstore.specs.FactsOfSpace.ImageBlocks.{page_part, unused_rest}
use Rattle.nl_vstore.proofs.images.is_rest_at.Goals as goal

pub returns-else-is_used : goal.returns-else-is_used
returns-else-is_used c =
    let bytes = c.args.blocks.now in
    let there =
    page_part bytes (total_blocks c.args.table.now) c.args.number _ c.requires.size c.requires.inside
    (omega arith) in
    let unused : IsUsed c.args.table.now c.args.number → ⊥ = λ used.
    let yes = c.if-is_used.ensures.1 (subst (IsUsed c.args.table.now) (sym c.new.ensures) used) in
    absurd (cc) in
    unused_rest c.args.table.now (pages_of_bytes bytes) c.args.number _ _ there unused c.is_zero.ensures
