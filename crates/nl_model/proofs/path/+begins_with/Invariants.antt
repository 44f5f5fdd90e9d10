use Rattle.std.proofs.Common.{length}
use Rattle.nl_model.proofs.path.+begins_with.Given as goal

abbrev pub decreases-begins_with : goal.decreases-begins_with
decreases-begins_with l = length l.top.now
