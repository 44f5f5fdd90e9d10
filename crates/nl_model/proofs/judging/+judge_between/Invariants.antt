use Rattle.std.proofs.Common.{length}
use Rattle.nl_model.proofs.judging.+judge_between.Given as goal

abbrev pub decreases-judge_between : goal.decreases-judge_between
decreases-judge_between l = length l.rows.now
