use Rattle.nl_types.specs.Facts.Needs.{checkpoints-keep}
use Rattle.nl_types.proofs.laws.checkpoints_keep_needs.Goals as goal

pub returns : goal.returns
returns c = checkpoints-keep
