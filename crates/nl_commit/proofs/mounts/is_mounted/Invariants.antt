use Rattle.std.proofs.Common.{◌≡◌, drop}
use Rattle.std.specs.Prelude.{map}
use Rattle.nl_types.specs.Plain.Worlds.{is_mounted}
use Rattle.nl_commit.specs.Volume.{mount_of}
use Rattle.nl_commit.proofs.mounts.is_mounted.Given as goal

abbrev pub invariant-loop-mounted : goal.invariant-loop-mounted
invariant-loop-mounted l =
    is_mounted (map mount_of (drop l.mounted-index l.mounts)) l.checkpoint
    ≡ is_mounted (map mount_of l.mounts) l.checkpoint
