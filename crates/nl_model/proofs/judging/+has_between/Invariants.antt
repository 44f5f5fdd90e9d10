use Rattle.std.proofs.Common.{length}
use Rattle.nl_model.proofs.judging.+has_between.Given as goal

abbrev pub decreases-has_between : goal.decreases-has_between
decreases-has_between l = length l.rows.now
