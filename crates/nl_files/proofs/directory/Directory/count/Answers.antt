use Rattle.std.proofs.Common.{◌∙◌}
use Rattle.nl_files.proofs.DirectoryBlocks.{counted_up_to-all, counted_up_to-init, counted_up_to-missing, counted_up_to-more}
use Rattle.nl_files.proofs.directory.Directory.count.Goals as goal

pub loop-index-init : goal.loop-index-init
loop-index-init g c = record {
  store = c.new-cursor.ensures.store;
  root = c.new-cursor.ensures.root;
  counted = counted_up_to-init _ _;
}

pub returns-in_default : goal.returns-in_default
returns-in_default g c =
    let none = rw (c.loop-index.invariant.store, c.loop-index.invariant.root) at c.in_default.ensures.page in
    counted_up_to-missing _ _ c.loop-index.index _ c.loop-index.invariant.counted none

pub loop-index-preserved : goal.loop-index-preserved
loop-index-preserved g c =
    let page = rw (c.loop-index.invariant.store, c.loop-index.invariant.root) at c.in-Some.ensures.page in
    let read = c.record_count.ensures in
    record {
      store = c.page_at.ensures.store ∙ c.loop-index.invariant.store;
      root = c.page_at.ensures.root ∙ c.loop-index.invariant.root;
      counted =
          counted_up_to-more _ _ c.loop-index.index _ _ _ _ read.0 c.loop-index.invariant.counted page read.1
          read.2 c.saturating_add-count.ensures;
    }

pub returns : goal.returns
returns g c =
    counted_up_to-all _ _ c.loop-index.index _ c.loop-index.invariant.counted c.loop-index-test.false
