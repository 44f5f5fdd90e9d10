use Rattle.std.proofs.Common.{length}
use Rattle.nl_model.proofs.copies.+with_mode.Given as goal

abbrev pub decreases-with_mode : goal.decreases-with_mode
decreases-with_mode l = length l.copies.now
