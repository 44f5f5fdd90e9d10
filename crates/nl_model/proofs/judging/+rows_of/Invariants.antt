use Rattle.std.proofs.Common.{length}
use Rattle.nl_model.proofs.judging.+rows_of.Given as goal

abbrev pub decreases-rows_of : goal.decreases-rows_of
decreases-rows_of l = length l.copies.now
