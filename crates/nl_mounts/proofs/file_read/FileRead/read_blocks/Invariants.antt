use Rattle.std.proofs.Common.{◌≡◌, ◌-◌, ◌/◌, ◌≤◌}
use Rattle.nl_tree.specs.Held.{Holding, held_block}
use Rattle.nl_mounts.specs.Caching.{HasCachedBlocks, block_count, touched}
use Rattle.nl_mounts.specs.Warming.{AreReadUpTo}
use Rattle.nl_mounts.proofs.Kept.{IsBlockEdge}
use Rattle.nl_mounts.proofs.file_read.FileRead.read_blocks.Given as goal

abbrev pub invariant-loop-seen : goal.invariant-loop-seen
invariant-loop-seen g l = record {
  behind : l.done ≤ l.seen;
  within : l.seen ≤ l.len;
  edge : IsBlockEdge l.self.offset l.seen l.len;
  touched_is : l.cache
      ≡ touched l.self.file.now.checkpoint l.self.file.now.inode (l.self.offset / 1024)
      (block_count l.self.offset l.seen) l.fn.cache;
  still : (held : Holding) → HasCachedBlocks l.fn.cache l.self.file.now.checkpoint held
      → HasCachedBlocks l.cache l.self.file.now.checkpoint held;
  read : (held : Holding) → g.T.TreeRead.holds l.self.tree.now held
      → HasCachedBlocks l.fn.cache l.self.file.now.checkpoint held
      → AreReadUpTo l.done (held_block (held l.self.file.now.inode)) l.self.offset l.into;
}

abbrev pub decreases-loop-seen : goal.decreases-loop-seen
decreases-loop-seen g l = l.len - l.seen
