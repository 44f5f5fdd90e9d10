use Rattle.std.proofs.Common.{◌≡◌, ◌-◌, ◌≤◌}
use Rattle.nl_tree.specs.Held.{Holding, held_block}
use Rattle.nl_mounts.specs.Caching.{put_count, warmed}
use Rattle.nl_mounts.specs.Warming.{PutsStored}
use Rattle.nl_mounts.proofs.cache.warm_file.Given as goal

abbrev pub invariant-loop-index : goal.invariant-loop-index
invariant-loop-index g l = record {
  begun : l.first ≤ l.index;
  counted : l.count ≤ l.index - l.first;
  warmed_is : (held : Holding) → g.T.TreeRead.holds l.tree held
      → l.cache
      ≡ warmed (held_block (held l.file.inode)) l.file.checkpoint l.file.inode l.first
      (l.index - l.first) l.fn.cache;
  put_is : (held : Holding) → g.T.TreeRead.holds l.tree held
      → l.count
      ≡ put_count (held_block (held l.file.inode)) l.file.checkpoint l.file.inode l.first
      (l.index - l.first) l.fn.cache;
  stored : PutsStored (g.T.TreeRead.holds l.tree) l.file.checkpoint l.fn.cache l.cache;
}
