use Rattle.std.proofs.Common.{◌-◌, ◌≡◌, ◌≤◌, length, map}
use Rattle.std.specs.List.{range_with_len}
use Rattle.nl_tree.specs.Held.{Holding, held_block}
use Rattle.nl_mounts.proofs.taken.share_blocks.Given as goal

abbrev pub invariant-loop-index : goal.invariant-loop-index
invariant-loop-index g l = record {
  begun : l.first ≤ l.index;
  size : length l.pages.items ≡ l.index - l.first;
  pages : (held : Holding) → g.T.TreeRead.holds l.tree held
      → l.pages.items ≡ map (held_block (held l.inode)) (range_with_len l.first (l.index - l.first));
}
