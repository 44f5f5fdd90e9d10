use Rattle.std.proofs.Common.{◌∙◌, ◌+◌, arith}
use Rattle.std.proofs.lemmas.List.{length-set}
use Rattle.nl_segwriter.specs.Images.{page_in}
use Rattle.nl_segwriter.specs.Writing.{held_in}
use Rattle.nl_segwriter.proofs.ImageLogs.{more_row, same_one_more}
use Rattle.nl_segwriter.proofs.images.hold_pages.Goals as goal

pub loop-k-preserved : goal.loop-k-preserved
loop-k-preserved c =
    let table = c.loop-k.payload in
    let inside = c.requires.inside in
    rw c.set.ensures.set (record {
      held =
          more_row c.args.first c.loop-k.k c.args.tags.now c.index-tags-k.result c.in_ok-page.page table
          (page_in c.args.pages.now) (omega arith) c.index-tags-k.is
          (omega (arith, c.loop-k.invariant.size, c.requires.size, c.requires.inside))
          c.in_ok-page.ensures.found c.loop-k.invariant.held;
      others =
          same_one_more c.args.first c.loop-k.k
          (held_in c.args.payload.now) table _ c.loop-k.invariant.others;
      size = length-set table (c.args.first + c.loop-k.k) _ ∙ c.loop-k.invariant.size;
    })
