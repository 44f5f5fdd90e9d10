use Rattle.nl_reclaim.proofs.FirstNeeded.{first-needed-stand-there}
use Rattle.nl_reclaim.proofs.counting_laws.first_needed_stand_there.Goals as goal

pub returns : goal.returns
returns c = first-needed-stand-there c.needed_numbers_stand_once.ensures
