use Rattle.nl_files.specs.Facts.First.{first-hold}
use Rattle.nl_files.proofs.laws.first_checkpoints_hold.Goals as goal

pub returns : goal.returns
returns c = first-hold
