use Rattle.std.proofs.Common.{◌≡◌, ◌≤◌, ℕ, length, slice_index}
use Rattle.nl_blocktree.proofs.slots.make_room.Given as goal

abbrev pub invariant-loop-count : goal.invariant-loop-count
invariant-loop-count l = record {
  same : (i : ℕ) → slice_index l.slots.items i ≡ slice_index l.fn.slots.items i;
  len : length l.slots.items ≡ l.count;
  below : (n : ℕ) → l.room ≤ n → length l.fn.slots.items ≤ n → length l.slots.items ≤ n;
}
