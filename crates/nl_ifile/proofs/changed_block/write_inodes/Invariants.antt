use Rattle.std.proofs.Common.{◌≡◌, ℕ, ◌/◌, All, take}
use Rattle.nl_layout.specs.Inode.{EntryHasSpelling}
use Rattle.nl_ifile.specs.Inodes.{InodeMap, block_bytes, entry_for, in_block}
use Rattle.nl_ifile.specs.Changing.{inodes_with}
use Rattle.nl_ifile.proofs.changed_block.write_inodes.Given as goal

abbrev pub invariant-loop-change : goal.invariant-loop-change
invariant-loop-change l = record {
  written : (inodes : InodeMap) (index : ℕ) → All (λ c. c.number / 8 ≡ index) l.changes
      → l.fn.bytes ≡ block_bytes (in_block inodes index) →
      l.bytes ≡ block_bytes (in_block (inodes_with (take l.change-index l.changes) inodes) index);
  fits : All (λ c. EntryHasSpelling (entry_for c.inode)) (take l.change-index l.changes);
}
