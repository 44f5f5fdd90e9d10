use Rattle.std.proofs.Common.{◌≡◌, ℕ, ◌-◌, ◌/◌, ◌<◌, ◌≤◌, length, get_or}
use Rattle.nl_ifile.specs.declared.change.InodeChange.{InodeChange}
use Rattle.nl_ifile.proofs.changed_block.end_of_block.Given as goal

abbrev pub invariant-loop-end : goal.invariant-loop-end
invariant-loop-end l = record {
  more : l.start < l.end;
  within : l.end ≤ length l.changes;
  same : (k : ℕ) (next : InodeChange) → l.start ≤ k → k < l.end
      → (get_or l.changes k next).number / 8 ≡ l.index;
}

abbrev pub decreases-loop-end : goal.decreases-loop-end
decreases-loop-end l = length l.changes - l.end
