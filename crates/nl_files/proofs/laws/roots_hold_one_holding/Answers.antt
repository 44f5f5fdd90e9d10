use Rattle.nl_files.specs.Facts.Holdings.{roots-hold_one}
use Rattle.nl_files.proofs.laws.roots_hold_one_holding.Goals as goal

pub returns : goal.returns
returns c = roots-hold_one
