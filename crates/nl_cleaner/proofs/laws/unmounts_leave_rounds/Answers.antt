use Rattle.nl_cleaner.specs.Facts.StepsLeft.{unmounts-leave-rounds}
use Rattle.nl_cleaner.proofs.laws.unmounts_leave_rounds.Goals as goal

pub returns : goal.returns
returns c = unmounts-leave-rounds
