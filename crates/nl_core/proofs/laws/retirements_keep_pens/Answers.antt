use Rattle.nl_events.specs.Facts.CleanedPens.{retirements_keep_pens}
use Rattle.nl_core.proofs.laws.retirements_keep_pens.Goals as goal

pub returns : goal.returns
returns c = retirements_keep_pens
