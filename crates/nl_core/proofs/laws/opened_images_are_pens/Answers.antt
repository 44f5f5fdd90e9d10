use Rattle.nl_core.proofs.Opened.{opened_images_are_pens}
use Rattle.nl_core.proofs.laws.opened_images_are_pens.Goals as goal

pub returns : goal.returns
returns c =
    opened_images_are_pens c.limited_inodes_mean_trees.ensures c.checked_checkpoints_are_sound.ensures.trees
    c.checked_checkpoints_are_sound.ensures.exact
