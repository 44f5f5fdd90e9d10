use Rattle.std.proofs.Common.{length}
use Rattle.nl_model.proofs.expiry.+expired.Given as goal

abbrev pub decreases-expired : goal.decreases-expired
decreases-expired l = length l.rows.now
