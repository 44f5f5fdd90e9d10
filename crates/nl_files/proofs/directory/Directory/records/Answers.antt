use Rattle.std.proofs.Common.{◌∙◌}
use Rattle.nl_files.proofs.DirectoryBlocks.{read_up_to-all, read_up_to-init, read_up_to-missing, read_up_to-more}
use Rattle.nl_files.proofs.directory.Directory.records.Goals as goal

pub loop-index-init : goal.loop-index-init
loop-index-init g c = record {
  store = c.new-cursor.ensures.store;
  root = c.new-cursor.ensures.root;
  read = rw c.new-all.ensures.items (read_up_to-init _ _);
}

pub returns-in_default-clause-all : goal.returns-in_default-clause-all
returns-in_default-clause-all g c =
    let none = rw (c.loop-index.invariant.store, c.loop-index.invariant.root) at c.in_default.ensures.page in
    read_up_to-missing _ _ c.loop-index.index _ c.loop-index.invariant.read none

pub loop-index-preserved : goal.loop-index-preserved
loop-index-preserved g c =
    let page = rw (c.loop-index.invariant.store, c.loop-index.invariant.root) at c.in-Some.ensures.page in
    record {
      store = c.page_at.ensures.store ∙ c.loop-index.invariant.store;
      root = c.page_at.ensures.root ∙ c.loop-index.invariant.root;
      read =
          read_up_to-more _ _ c.loop-index.index _ _ _ c.loop-index.invariant.read page
          c.in_ok-add_records.ensures.added;
    }

pub returns-clause-all : goal.returns-clause-all
returns-clause-all g c =
    read_up_to-all _ _ c.loop-index.index _ c.loop-index.invariant.read c.loop-index-test.false
