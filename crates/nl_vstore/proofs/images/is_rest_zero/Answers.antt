use Rattle.std.proofs.Common.{◌≡◌, ◌*◌, arith, refl}
use borrow.Author.Count.{below_more}
use Rattle.nl_types.specs.Blocks.Segments.{total_blocks}
use Rattle.nl_vstore.specs.Images.{IsRestAt, pages_of_bytes}
use Rattle.nl_vstore.specs.FactsOfSpace.ImageBlocks.{rest_zero}
use Rattle.nl_vstore.proofs.images.is_rest_zero.Goals as goal

pub loop-number-init : goal.loop-number-init
loop-number-init c = λ b low page unused at. absurd (omega arith)

pub loop-number-preserved : goal.loop-number-preserved
loop-number-preserved c =
    below_more (IsRestAt c.args.table.now (pages_of_bytes c.args.blocks.now)) c.loop-number.number
    c.loop-number.invariant
    (c.if-not-is_rest_at.ensures.0 refl)

pub returns-then-not-is_rest_at : goal.returns-then-not-is_rest_at
returns-then-not-is_rest_at c =
    (λ no. absurd (cc), λ rest. c.if-not-is_rest_at.ensures.1 (rest c.loop-number.number))

pub returns : goal.returns
returns c =
    let count : c.sustat.result.segments * c.blocks-2.result ≡ total_blocks c.args.table.now =
    rw (c.sustat.ensures.segments, c.blocks-2.ensures.blocks) refl in (
      λ _.
          rest_zero c.args.table.now c.args.blocks.now (total_blocks c.args.table.now) c.requires
          (λ b low. c.loop-number.invariant b (omega (arith, count, c.loop-number-test.false))),
      λ _. refl,
    )
