use Rattle.nl_check.specs.Facts.Checkpoints.{exact_periods_are_exact, sound_trees_are_meant}
use Rattle.nl_check.proofs.laws.checked_checkpoints_are_sound.Goals as goal

pub returns-clause-trees : goal.returns-clause-trees
returns-clause-trees c = sound_trees_are_meant

pub returns-clause-exact : goal.returns-clause-exact
returns-clause-exact c = exact_periods_are_exact
