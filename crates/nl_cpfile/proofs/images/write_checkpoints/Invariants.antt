use Rattle.std.proofs.Common.{◌≡◌, ◌*◌, ◌++◌, take, drop}
use Rattle.std.specs.List.{All, flat_map}
use Rattle.nl_layout.specs.Checkpoints.{HasSpelling, checkpoint_bytes}
use Rattle.nl_cpfile.proofs.images.write_checkpoints.Given as goal

abbrev pub invariant-loop-i : goal.invariant-loop-i
invariant-loop-i l = record {
  written : l.out ≡ flat_map checkpoint_bytes (take l.i l.kept) ++ drop (160 * l.i) l.fn.out;
  fit : All HasSpelling (take l.i l.kept);
}
