use Rattle.std.proofs.Common.{length}
use Rattle.nl_model.proofs.tree.+with_moved.Given as goal

abbrev pub decreases-with_moved : goal.decreases-with_moved
decreases-with_moved l = length l.entries.now
