use Rattle.std.proofs.Common.{length}
use Rattle.nl_pins.proofs.expiring.+descends.Given as goal

abbrev pub decreases-descends : goal.decreases-descends
decreases-descends l = length l.rows.now
