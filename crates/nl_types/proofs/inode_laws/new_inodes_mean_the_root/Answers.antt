use Rattle.nl_types.specs.Facts.Inodes.RootAlone.{new_inodes_mean_the_root}
use Rattle.nl_types.proofs.inode_laws.new_inodes_mean_the_root.Goals as goal

pub returns : goal.returns
returns c = new_inodes_mean_the_root
