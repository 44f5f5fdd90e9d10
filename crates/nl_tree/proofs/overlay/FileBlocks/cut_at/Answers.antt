use Rattle.std.proofs.Common.{ap, arith}
use Rattle.std.specs.Prelude.{nat_lt}
use Rattle.nl_tree.specs.declared.overlay.FileBlocks.{FileBlocks}
use Rattle.nl_tree.proofs.FilePages.{cut_lower, cut_over, cut_stays}
use Rattle.nl_tree.proofs.overlay.FileBlocks.cut_at.Goals as goal

pub returns-then-count-self-clause-blocks : goal.returns-then-count-self-clause-blocks
returns-then-count-self-clause-blocks c = λ base.
    let file = c.args.self.now in
    let new : FileBlocks = record {
      size = c.drop_pages.new.self.size;
      cut = c.args.count;
      pages = c.drop_pages.new.self.pages;
    } in
    let lower =
    cut_lower file.cut c.args.count
    (let e = c.drop_pages.ensures.cut in let l = c.if-count-self.true in omega (arith, e, l)) in
    cut_over file new base c.args.count lower.0 lower.1 c.drop_pages.ensures.pages

pub returns-else-count-self-clause-blocks : goal.returns-else-count-self-clause-blocks
returns-else-count-self-clause-blocks c = λ base.
    let file = c.args.self.now in
    let new = c.drop_pages.new.self in
    cut_over file new base c.args.count (λ b l. ap (nat_lt b) c.drop_pages.ensures.cut)
    (cut_stays new.cut c.args.count c.if-count-self.false) c.drop_pages.ensures.pages
