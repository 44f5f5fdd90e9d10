use Rattle.std.proofs.Common.{length}
use Rattle.nl_model.proofs.expiry.+least_protected.Given as goal

abbrev pub decreases-least_protected : goal.decreases-least_protected
decreases-least_protected l = length l.rows.now
