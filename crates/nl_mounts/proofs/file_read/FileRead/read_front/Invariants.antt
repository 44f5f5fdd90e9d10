use Rattle.std.proofs.Common.{ℕ, ◌/◌, ◌≤◌, Contains, List, length}
use Rattle.nl_tree.specs.Held.{Holding, held_block}
use Rattle.nl_mounts.specs.declared.cache.CacheKey.{CacheKey}
use Rattle.nl_mounts.specs.Caching.{HasCachedBlocks, block_count}
use Rattle.nl_mounts.specs.Warming.{AreReadFrom}
use Rattle.nl_mounts.proofs.InFront.{IsFront}
use Rattle.nl_mounts.proofs.file_read.FileRead.read_front.Given as goal

-- where the blocks that are left begin the entries that are left, all of them begin the list
abbrev pub invariant-loop-key : goal.invariant-loop-key
invariant-loop-key g l = record {
  next : (goal.iterator-loop-key g).can_next l.key-iterator;
  ends : (goal.iterator-loop-key g).is_finite l.key-iterator;
  within : l.left ≤ length l.fn.into;
  front : IsFront l.self.file.now.checkpoint l.self.file.now.inode (l.self.offset / 1024)
      (block_count l.self.offset l.left) l.key-iterator
      → IsFront l.self.file.now.checkpoint l.self.file.now.inode (l.self.offset / 1024)
      (block_count l.self.offset (length l.fn.into)) l.cache.entries;
  inside : (e : CacheKey × List ℕ) → Contains l.key-iterator e → Contains l.cache.entries e;
  read : (held : Holding) → HasCachedBlocks l.cache l.self.file.now.checkpoint held
      → AreReadFrom l.left (length l.fn.into) (held_block (held l.self.file.now.inode)) l.self.offset l.into;
}
