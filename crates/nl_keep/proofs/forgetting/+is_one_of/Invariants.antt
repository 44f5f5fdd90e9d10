use Rattle.std.proofs.Common.{length}
use Rattle.nl_keep.proofs.forgetting.+is_one_of.Given as goal

abbrev pub decreases-is_one_of : goal.decreases-is_one_of
decreases-is_one_of l = length l.numbers.now
