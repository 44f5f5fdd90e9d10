use Rattle.std.proofs.Common.{length}
use Rattle.nl_model.proofs.tree.+count_in.Given as goal

abbrev pub decreases-count_in : goal.decreases-count_in
decreases-count_in l = length l.entries.now
