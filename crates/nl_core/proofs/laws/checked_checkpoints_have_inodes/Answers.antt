use Rattle.nl_core.proofs.Opened.{checked_have-inodes}
use Rattle.nl_core.proofs.laws.checked_checkpoints_have_inodes.Goals as goal

pub returns : goal.returns
returns c =
    checked_have-inodes c.limited_inodes_mean_trees.ensures c.checked_checkpoints_are_sound.ensures.trees
