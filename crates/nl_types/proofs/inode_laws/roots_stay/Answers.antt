use Rattle.nl_types.specs.Facts.Inodes.RootAlone.{root_is_there, root_stays}
use Rattle.nl_types.proofs.inode_laws.roots_stay.Goals as goal

pub returns-clause-there : goal.returns-clause-there
returns-clause-there c = root_is_there

pub returns-clause-stays : goal.returns-clause-stays
returns-clause-stays c = root_stays
