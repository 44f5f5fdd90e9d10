use Rattle.std.proofs.Common.{◌≡◌, ◌*◌, List, take, length}
use Rattle.std.specs.List.{All, flat_map}
use Rattle.nl_layout.specs.declared.checkpoint_entry.CheckpointEntry.{CheckpointEntry}
use Rattle.nl_layout.specs.Checkpoints.{HasSpelling, checkpoint_bytes}
use Rattle.nl_cpfile.proofs.images.read_entries.Given as goal

abbrev pub invariant-loop-i : goal.invariant-loop-i
invariant-loop-i l = record {
  read : take (160 * l.i) l.bytes ≡ flat_map checkpoint_bytes l.kept.items;
  count : length l.kept.items ≡ l.i;
  fit : All HasSpelling l.kept.items;
  only : (kept : List CheckpointEntry) → l.bytes ≡ flat_map checkpoint_bytes kept → All HasSpelling kept
      → l.kept.items ≡ take l.i kept;
}
