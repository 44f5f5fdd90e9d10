use Rattle.nl_files.specs.Facts.Following.{settled-differ}
use Rattle.nl_files.proofs.laws.settled_checkpoints_write_what_differs.Goals as goal

pub returns : goal.returns
returns c = settled-differ
