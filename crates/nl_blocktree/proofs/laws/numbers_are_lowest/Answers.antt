use Rattle.nl_blocktree.specs.Facts.Numbers.{numbers-lowest}
use Rattle.nl_blocktree.proofs.laws.numbers_are_lowest.Goals as goal

pub returns : goal.returns
returns c = numbers-lowest
