use Rattle.std.proofs.Common.{length}
use Rattle.nl_model.proofs.copies.+without.Given as goal

abbrev pub decreases-without : goal.decreases-without
decreases-without l = length l.copies.now
