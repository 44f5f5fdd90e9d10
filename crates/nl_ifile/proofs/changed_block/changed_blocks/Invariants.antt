use Rattle.std.proofs.Common.{◌≡◌, ◌-◌, length}
use Rattle.nl_types.specs.Blocks.Roots.{page_at}
use Rattle.nl_layout.specs.Root.{root_of}
use Rattle.nl_ifile.specs.Inodes.{inode_at}
use Rattle.nl_ifile.specs.Changing.{AreFirstBlockChanges}
use Rattle.nl_ifile.proofs.changed_block.changed_blocks.Given as goal

abbrev pub invariant-loop-start : goal.invariant-loop-start
invariant-loop-start g l = record {
  store : l.cursor.store.now ≡ l.store;
  root : l.cursor.root ≡ l.root;
  blocks : AreFirstBlockChanges (page_at (g.V.VRead.pages l.store) (root_of l.root))
      (inode_at (g.V.VRead.pages l.store) (root_of l.root)) l.changes l.start l.blocks.items;
}

abbrev pub decreases-loop-start : goal.decreases-loop-start
decreases-loop-start g l = length l.changes - l.start
