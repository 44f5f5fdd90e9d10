use Rattle.std.proofs.Common.{length}
use Rattle.nl_model.proofs.mounts.+is_mounted.Given as goal

abbrev pub decreases-is_mounted : goal.decreases-is_mounted
decreases-is_mounted l = length l.mounts.now
