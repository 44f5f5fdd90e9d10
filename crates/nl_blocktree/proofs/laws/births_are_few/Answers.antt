use Rattle.nl_blocktree.specs.Facts.FewBirths as few
use Rattle.nl_blocktree.proofs.laws.births_are_few.Goals as goal

pub returns : goal.returns
returns c = few.births_are_few
