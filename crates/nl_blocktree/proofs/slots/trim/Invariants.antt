use Rattle.std.proofs.Common.{◌≡◌, ◌≤◌, ℕ, length, slice_index}
use Rattle.nl_blocktree.proofs.slots.trim.Given as goal

abbrev pub invariant-loop-last : goal.invariant-loop-last
invariant-loop-last l = record {
  same : (i : ℕ) → slice_index l.slots.items i ≡ slice_index l.fn.slots.items i;
  shorter : length l.slots.items ≤ length l.fn.slots.items;
}

abbrev pub decreases-loop-last : goal.decreases-loop-last
decreases-loop-last l = length l.slots.items
