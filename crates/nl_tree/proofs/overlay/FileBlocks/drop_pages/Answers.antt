use Rattle.std.proofs.Common.{◌<◌, arith, ap}
use Rattle.std.specs.Option.{option_flatten}
use Rattle.nl_tree.specs.Overlays.{new_page_at}
use Rattle.nl_tree.proofs.FilePages.{is_below, none_past}
use Rattle.nl_tree.proofs.overlay.FileBlocks.drop_pages.Goals as goal

pub returns-then-last-count-clause-pages : goal.returns-then-last-count-clause-pages
returns-then-last-count-clause-pages c =
    is_below c.args.count (new_page_at c.loop-last.self)
    (new_page_at c.args.self.now) c.loop-last.invariant.kept
    (λ b l.
    ap option_flatten
    (c.in-Some.ensures.bound b
    (let below : c.in-Some.last < c.args.count = c.if-last-count.true in omega (arith, below, l))))

pub returns-clause-pages : goal.returns-clause-pages
returns-clause-pages c =
    is_below c.args.count (new_page_at c.loop-last.self)
    (new_page_at c.args.self.now) c.loop-last.invariant.kept
    (λ b l.
    ap option_flatten
    (none_past c.loop-last.self.pages c.last_index.result c.in_default.not-Some c.last_index.ensures.bound
    b))
