use Rattle.nl_check.proofs.MetNumbers.{tell-periods}
use Rattle.nl_check.proofs.laws.met_numbers_tell_periods.Goals as goal

pub returns : goal.returns
returns c = tell-periods
