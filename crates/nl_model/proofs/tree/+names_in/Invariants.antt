use Rattle.std.proofs.Common.{length}
use Rattle.nl_model.proofs.tree.+names_in.Given as goal

abbrev pub decreases-names_in : goal.decreases-names_in
decreases-names_in l = length l.entries.now
