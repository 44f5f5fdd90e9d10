use Rattle.nl_dirs.specs.Facts.Blocks.{earlier-absent, names-one_block}
use Rattle.nl_dirs.proofs.laws.names_stand_in_one_block.Goals as goal

pub returns-clause-one : goal.returns-clause-one
returns-clause-one c = names-one_block

pub returns-clause-none : goal.returns-clause-none
returns-clause-none c = earlier-absent
