use Rattle.nl_commit.specs.Notes.{allowed_where}
use Rattle.nl_core.specs.Facts.Refusals.{refusals_have_reasons}
use Rattle.nl_core.proofs.laws.refusals_have_reasons.Goals as goal

pub returns : goal.returns
returns c = λ told. refusals_have_reasons (allowed_where told)
