use Rattle.std.proofs.Common.{length}
use Rattle.nl_keep.proofs.asking.+are_names.Given as goal

abbrev pub decreases-are_names : goal.decreases-are_names
decreases-are_names l = length l.path.now
