use Rattle.nl_events.specs.Facts.CleanedPens.{moves_keep_pens, refused_moves_keep_pens}
use Rattle.nl_core.proofs.laws.moves_keep_pens.Goals as goal

pub returns-clause-moved : goal.returns-clause-moved
returns-clause-moved c = moves_keep_pens

pub returns-clause-refused : goal.returns-clause-refused
returns-clause-refused c = refused_moves_keep_pens
