use Rattle.nl_commit.specs.Notes.{allowed_where}
use Rattle.nl_core.specs.Facts.Refusals.{refusals_keep_pens}
use Rattle.nl_core.proofs.laws.refusals_keep_pens.Goals as goal

pub returns : goal.returns
returns c = λ told. refusals_keep_pens (allowed_where told)
