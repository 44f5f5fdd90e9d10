use Rattle.std.proofs.Common.{length}
use Rattle.nl_model.proofs.mounts.+without_mount.Given as goal

abbrev pub decreases-without_mount : goal.decreases-without_mount
decreases-without_mount l = length l.mounts.now
