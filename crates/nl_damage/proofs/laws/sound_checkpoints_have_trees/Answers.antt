use Rattle.nl_damage.proofs.SoundCheckpoints.{have_trees}
use Rattle.nl_damage.proofs.laws.sound_checkpoints_have_trees.Goals as goal

pub returns : goal.returns
returns c = have_trees c.checked_checkpoints_are_sound.ensures.trees
