use Rattle.nl_check.specs.Facts.Checkpoints.{sound_checkpoints_are_shaped}
use Rattle.nl_check.proofs.laws.sound_checkpoints_are_shaped.Goals as goal

pub returns : goal.returns
returns c = sound_checkpoints_are_shaped
