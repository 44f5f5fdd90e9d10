use Rattle.nl_core.proofs.OneWorld.{means_one}
use Rattle.nl_core.proofs.laws.pens_mean_one_world.Goals as goal

pub returns : goal.returns
returns c = means_one
