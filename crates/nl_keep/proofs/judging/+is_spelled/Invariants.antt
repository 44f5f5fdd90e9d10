use Rattle.std.proofs.Common.{length}
use Rattle.nl_keep.proofs.judging.+is_spelled.Given as goal

abbrev pub decreases-is_spelled : goal.decreases-is_spelled
decreases-is_spelled l = length l.path.now
