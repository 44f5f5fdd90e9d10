use Rattle.std.proofs.Common.{◌≡◌, ◌≤◌, ◌<◌, ◌/◌, ℕ, slice_index_or}
use Rattle.nl_blocktree.specs.declared.tree.Edit.{Edit}
use Rattle.nl_blocktree.proofs.levels.group_end.Given as goal

abbrev pub invariant-loop-end : goal.invariant-loop-end
invariant-loop-end l = (k : ℕ) (d e : Edit) → l.first ≤ k → k < l.end →
    (slice_index_or l.edits k d).offset / 128 ≡ (slice_index_or l.edits l.first e).offset / 128
