use Rattle.nl_dirs.specs.Facts.Blocks.{packings-one}
use Rattle.nl_dirs.proofs.laws.packings_are_one.Goals as goal

pub returns : goal.returns
returns c = packings-one
