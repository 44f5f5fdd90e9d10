use Rattle.std.proofs.Common.{length}
use Rattle.nl_saving.proofs.marked.+is_marked.Given as goal

abbrev pub decreases-is_marked : goal.decreases-is_marked
decreases-is_marked l = length l.mark.now
