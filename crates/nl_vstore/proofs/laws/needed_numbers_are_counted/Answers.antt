use Rattle.nl_vstore.proofs.Standing.{needed-are-standing}
use Rattle.nl_vstore.proofs.laws.needed_numbers_are_counted.Goals as goal

pub returns : goal.returns
returns c = needed-are-standing
