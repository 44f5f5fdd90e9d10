use Rattle.std.proofs.Common.{length}
use Rattle.nl_model.proofs.mounts.+find_mount.Given as goal

abbrev pub decreases-find_mount : goal.decreases-find_mount
decreases-find_mount l = length l.mounts.now
