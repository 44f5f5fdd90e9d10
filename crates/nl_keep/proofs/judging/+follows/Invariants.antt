use Rattle.std.proofs.Common.{length}
use Rattle.nl_keep.proofs.judging.+follows.Given as goal

abbrev pub decreases-follows : goal.decreases-follows
decreases-follows l = length l.later.now
