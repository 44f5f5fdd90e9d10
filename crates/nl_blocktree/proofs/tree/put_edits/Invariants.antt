use Rattle.std.proofs.Common.{◌≡◌, ◌<◌, ◌+◌, ◌*◌, ◌%◌, ℕ, length, slice_index, take}
use Rattle.nl_types.specs.Blocks.Roots.{numbered}
use Rattle.nl_blocktree.specs.Private.Edits.{edited}
use Rattle.nl_blocktree.proofs.tree.put_edits.Given as goal

abbrev pub invariant-loop-edit : goal.invariant-loop-edit
invariant-loop-edit l = record {
  count : length l.slots ≡ 128;
  slots : (s : ℕ) → s < 128
      → numbered (slice_index l.slots s)
      ≡ edited (take l.edit-index l.group) (λ i. numbered (slice_index l.fn.slots (i % 128)))
      (128 * l.offset + s);
}
