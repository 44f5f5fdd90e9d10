use Rattle.nl_types.proofs.Inodes.WithinLimits.{limited_inodes_mean_trees}
use Rattle.nl_types.proofs.inode_laws.limited_inodes_mean_trees.Goals as goal

pub returns : goal.returns
returns c = limited_inodes_mean_trees
