use Rattle.std.proofs.Common.{take}
use Rattle.nl_types.specs.Blocks.Roots.{pages_of, place_at}
use Rattle.nl_layout.specs.Root.{root_of}
use Rattle.nl_vstore.specs.Batches.{CanBeTaken}
use Rattle.nl_vstore.specs.Stores.{capacity, content_in}
use Rattle.nl_blocktree.specs.Private.Edits.{KnowAbove}
use Rattle.nl_blocktree.specs.Private.TreeLevels.{IsNodeOf, kept_levels}
use Rattle.nl_blocktree.specs.Private.Writing.{PutsData}
use Rattle.nl_blocktree.proofs.data.put_data.Given as goal

abbrev pub invariant-loop-change : goal.invariant-loop-change
invariant-loop-change g l = record {
  puts : PutsData (content_in (g.V.Vstore.store l.file.store.now)) l.file.inode (take l.change-index l.changes)
      (place_at (pages_of (content_in (g.V.Vstore.store l.file.store.now))) (root_of l.file.root) 0) l.edits.items
      l.fn.batch.births l.batch.births l.fn.batch.ends l.batch.ends;
  above : KnowAbove
      (kept_levels (pages_of (content_in (g.V.Vstore.store l.file.store.now))) (root_of l.file.root)) 0 l.edits.items;
  fits : CanBeTaken (capacity (g.V.Vstore.store l.file.store.now)) (content_in (g.V.Vstore.store l.file.store.now)) l.batch;
  node : IsNodeOf (g.V.VRead.pages l.file.store.now) (root_of l.file.root) l.known l.node;
}
