use Rattle.std.proofs.Common.{◌≤◌, ◌<◌, ◌+◌, ◌/◌, ◌-◌, ℕ, suc, length, slice_index_or, take}
use Rattle.nl_types.specs.Blocks.Roots.{pages_of}
use Rattle.nl_layout.specs.Root.{root_of}
use Rattle.nl_vstore.specs.Batches.{CanBeTaken}
use Rattle.nl_vstore.specs.Stores.{capacity, content_in}
use Rattle.nl_blocktree.specs.Private.Edits.{KnowAbove}
use Rattle.nl_blocktree.specs.Private.TreeLevels.{kept_levels}
use Rattle.nl_blocktree.specs.Private.Writing.{PutsLevel}
use Rattle.nl_blocktree.specs.declared.tree.Edit.{Edit}
use Rattle.nl_blocktree.proofs.levels.put_level.Given as goal

abbrev pub invariant-loop-at : goal.invariant-loop-at
invariant-loop-at g l = record {
  puts : PutsLevel (content_in (g.V.Vstore.store l.file.store.now)) l.file.inode (suc l.below)
      (kept_levels (pages_of (content_in (g.V.Vstore.store l.file.store.now))) (root_of l.file.root) (suc l.below))
      (kept_levels (pages_of (content_in (g.V.Vstore.store l.file.store.now))) (root_of l.file.root) l.below)
      (take l.at l.edits) l.ups.items l.fn.batch.births l.batch.births l.fn.batch.ends l.batch.ends;
  fits : CanBeTaken (capacity (g.V.Vstore.store l.file.store.now)) (content_in (g.V.Vstore.store l.file.store.now)) l.batch;
  above : KnowAbove (kept_levels (pages_of (content_in (g.V.Vstore.store l.file.store.now))) (root_of l.file.root))
      (l.below + 1) l.ups.items;
  within : l.at ≤ length l.edits;
  edge : (i j : ℕ) (d e : Edit) → i < l.at → l.at ≤ j → j < length l.edits →
      (slice_index_or l.edits i d).offset / 128 < (slice_index_or l.edits j e).offset / 128;
}

abbrev pub decreases-loop-at : goal.decreases-loop-at
decreases-loop-at g l = length l.edits - l.at
