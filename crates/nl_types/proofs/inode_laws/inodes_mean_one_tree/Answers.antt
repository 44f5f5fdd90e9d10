use Rattle.nl_types.specs.Facts.Inodes.Means.{inodes_mean_one_tree}
use Rattle.nl_types.proofs.inode_laws.inodes_mean_one_tree.Goals as goal

pub returns : goal.returns
returns c = inodes_mean_one_tree
