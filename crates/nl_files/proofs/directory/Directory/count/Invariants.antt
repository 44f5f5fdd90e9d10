use Rattle.std.proofs.Common.{◌≡◌}
use Rattle.nl_types.specs.Blocks.Roots.{page_at}
use Rattle.nl_layout.specs.Root.{root_of}
use Rattle.nl_files.proofs.DirectoryBlocks.{IsCountedUpTo}
use Rattle.nl_files.proofs.directory.Directory.count.Given as goal

abbrev pub invariant-loop-index : goal.invariant-loop-index
invariant-loop-index g l = record {
  store : l.cursor.store.now ≡ l.self.store.now;
  root : l.cursor.root ≡ l.self.root;
  counted : IsCountedUpTo
      (page_at (g.V.VRead.pages l.self.store.now) (root_of l.self.root)) l.self.size l.index l.count;
}
