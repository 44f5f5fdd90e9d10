use Rattle.std.proofs.Common.{◌∙◌, arith, subst}
use Rattle.nl_device.specs.Facts.Counting.{counts-reads}
use Rattle.nl_vstore.specs.Content.{SpaceContent}
use Rattle.nl_vstore.specs.Images.{IsPageOf}
use Rattle.nl_vstore.specs.FactsOfSpace.ImageBlocks.{more_dumped}
use Rattle.nl_vstore.proofs.images.dump.Goals as goal

pub loop-number-preserved : goal.loop-number-preserved
loop-number-preserved g c =
    let content : SpaceContent = g.S.Space.content c.args.space.now in
    let page =
    subst (λ (k : SpaceContent). IsPageOf k c.loop-number.number c.dump_block.new.out)
    c.loop-number.invariant.same c.in_ok-dump_block.ensures.page in
    record {
      dumped =
          more_dumped content c.args.out.now c.loop-number.out c.dump_block.new.out c.loop-number.number _
          c.loop-number.invariant.dumped page
          (omega arith);
      same = c.in_ok-dump_block.ensures.same ∙ c.loop-number.invariant.same;
      counted =
          counts-reads (g.S.Space.failed c.args.space.now) (g.S.Space.failed c.loop-number.space)
          (g.S.Space.failed c.dump_block.new.space)
          c.loop-number.invariant.counted c.in_ok-dump_block.ensures.counted;
    }
