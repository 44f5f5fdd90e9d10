use Rattle.nl_events.specs.Facts.MinorPens.{minors_keep_pens}
use Rattle.nl_core.proofs.laws.minors_keep_pens.Goals as goal

pub returns : goal.returns
returns c = minors_keep_pens
