use Rattle.nl_types.specs.Facts.Inodes.FullVolumes.{full_volumes_are_too_big}
use Rattle.nl_types.proofs.inode_laws.full_volumes_are_too_big.Goals as goal

pub returns : goal.returns
returns c = full_volumes_are_too_big
