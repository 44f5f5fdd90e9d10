use Rattle.nl_types.specs.Facts.Inodes.Means.{walks_find}
use Rattle.nl_types.proofs.inode_laws.walks_find_objects.Goals as goal

pub returns : goal.returns
returns c = walks_find
