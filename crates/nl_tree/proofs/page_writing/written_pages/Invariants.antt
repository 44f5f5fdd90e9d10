use Rattle.std.proofs.Common.{◌≡◌, ◌+◌, length}
use Rattle.nl_tree.specs.Held.{Holding, held_block}
use Rattle.nl_tree.specs.Bytes.{ArePagesWritten}
use Rattle.nl_tree.proofs.page_writing.written_pages.Given as goal

abbrev pub invariant-loop-index : goal.invariant-loop-index
invariant-loop-index g l = record {
  count : l.index ≡ l.first + length l.pages.items;
  pages : (held : Holding) → g.T.TreeRead.holds l.tree held
      → ArePagesWritten (held_block (held l.file)) l.first l.offset l.bytes l.pages.items;
}
