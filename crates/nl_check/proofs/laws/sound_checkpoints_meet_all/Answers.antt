use Rattle.nl_check.specs.Facts.Checkpoints.{sound_checkpoints_meet_all}
use Rattle.nl_check.proofs.laws.sound_checkpoints_meet_all.Goals as goal

pub returns : goal.returns
returns c = sound_checkpoints_meet_all
