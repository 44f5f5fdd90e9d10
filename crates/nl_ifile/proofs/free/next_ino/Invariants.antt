use Rattle.std.proofs.Common.{◌≡◌, ◌*◌}
use Rattle.std.specs.Prelude.{max}
use Rattle.nl_types.specs.Inodes.{AreInUseFrom}
use Rattle.nl_layout.specs.Root.{root_of}
use Rattle.nl_ifile.specs.Inodes.{inode_at}
use Rattle.nl_ifile.specs.Changing.{inodes_with}
use Rattle.nl_ifile.proofs.free.next_ino.Given as goal

abbrev pub invariant-loop-block : goal.invariant-loop-block
invariant-loop-block g l = record {
  store : l.cursor.store.now ≡ l.store;
  root : l.cursor.root ≡ l.fn.root;
  in_use : AreInUseFrom
      (inodes_with l.changes (inode_at (g.V.VRead.pages l.store) (root_of l.fn.root))) l.fn.from
      (max l.fn.from (l.block * 8));
}
