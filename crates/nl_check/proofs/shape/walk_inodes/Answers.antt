use Rattle.std.proofs.Common.{Ok, ap, arith, refl, ◌∙◌}
use Rattle.nl_types.specs.Blocks.Roots.{Pages}
use Rattle.nl_layout.specs.Root.{root_of}
use Rattle.nl_check.specs.Private.Walks.{IsBlockOf}
use Rattle.nl_check.specs.Facts.Below.{below-more, found-at, none-from}
use Rattle.nl_check.proofs.shape.walk_inodes.Goals as goal

pub loop-index-init : goal.loop-index-init
loop-index-init g c = record {
  store = c.new-cursor.ensures.store;
  root = c.new-cursor.ensures.root;
  count = refl;
  within = c.requires.within;
  known = c.requires.known;
  blocks = λ i low. absurd (omega (arith, low));
}

pub returns-in_default-clause-no : goal.returns-in_default-clause-no
returns-in_default-clause-no g c = λ _ s.
    let page =
    rw (c.loop-index.invariant.store, c.loop-index.invariant.root) at c.page_at-page.ensures.page in
    c.in_ok-now.ensures.no (ap Ok (none-from c.in_ok-now.field-0 c.in_default.not-Some))
    (root_of c.args.root.now) page c.loop-index.invariant.known s

pub loop-index-preserved : goal.loop-index-preserved
loop-index-preserved g c =
    let pages : Pages = g.V.VRead.pages c.args.store.now in
    let page =
    rw (c.loop-index.invariant.store, c.loop-index.invariant.root) at c.page_at-page.ensures.page in
    let step =
    found-at _ c.in_ok-now.field-0 c.in-Some.now c.in_ok-now.ensures.yes c.in-Some.is
    (root_of c.args.root.now) page c.loop-index.invariant.known in
    record {
      store = c.page_at-page.ensures.store ∙ c.loop-index.invariant.store;
      root = c.page_at-page.ensures.root ∙ c.loop-index.invariant.root;
      count = c.walk_index.ensures.count ∙ c.loop-index.invariant.count;
      within = λ v s.
          let low = c.loop-index.invariant.within v s in
          let same = c.walk_index.ensures.count in
          omega (arith, low, same);
      known = step.0;
      blocks =
          below-more (IsBlockOf pages (root_of c.args.root.now)) c.loop-index.index
          c.loop-index.invariant.blocks step.1;
    }
