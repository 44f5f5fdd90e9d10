use Rattle.nl_publish.proofs.FreedBlocks.{read_pages_stand, read_pages_stay, retirements_spare_read_pages}
use Rattle.nl_publish.proofs.laws.readers_reach_no_freed_block.Goals as goal

pub returns-clause-stand : goal.returns-clause-stand
returns-clause-stand c = read_pages_stand

pub returns-clause-spared : goal.returns-clause-spared
returns-clause-spared c = retirements_spare_read_pages

pub returns-clause-stay : goal.returns-clause-stay
returns-clause-stay c = read_pages_stay
