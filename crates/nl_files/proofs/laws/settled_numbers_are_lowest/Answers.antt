use Rattle.nl_files.specs.Facts.Following.{settled-lowest}
use Rattle.nl_files.proofs.laws.settled_numbers_are_lowest.Goals as goal

pub returns : goal.returns
returns c = settled-lowest
