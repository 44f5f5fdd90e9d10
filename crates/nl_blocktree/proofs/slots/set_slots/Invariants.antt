use Rattle.std.proofs.Common.{◌≡◌, ℕ, length, slice_index, take}
use Rattle.nl_types.specs.Blocks.Roots.{numbered}
use Rattle.nl_blocktree.specs.Private.Edits.{edited}
use Rattle.nl_blocktree.proofs.slots.set_slots.Given as goal

abbrev pub invariant-loop-edit : goal.invariant-loop-edit
invariant-loop-edit l = record {
  count : length l.slots ≡ length l.fn.slots;
  slots : (i : ℕ)
      → numbered (slice_index l.slots i)
      ≡ edited (take l.edit-index l.edits) (λ j. numbered (slice_index l.fn.slots j)) i;
}
