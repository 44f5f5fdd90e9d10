use Rattle.std.proofs.Common.{◌≡◌, ◌*◌, ◌≤◌}
use Rattle.nl_types.specs.Blocks.Roots.{page_at}
use Rattle.nl_layout.specs.Root.{root_of}
use Rattle.nl_check.proofs.DirectoryReading.{AreRead, AreReadOfAny}
use Rattle.nl_check.proofs.directories.records_of.Given as goal

abbrev pub invariant-loop-index : goal.invariant-loop-index
invariant-loop-index g l =
    let blocks = page_at (g.V.VRead.pages l.store) (root_of l.fn.root) in
    record {
      store : l.cursor.store.now ≡ l.store;
      root : l.cursor.root ≡ l.fn.root;
      most : l.used ≤ 1024;
      read : AreRead blocks l.index l.all.items l.used;
      read_of : AreReadOfAny blocks (1024 * l.count) l.index l.all.items l.used;
    }
