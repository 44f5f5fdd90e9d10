use Rattle.nl_commit.specs.Notes.{allowed_where}
use Rattle.nl_core.specs.Facts.Refusals.{no_space_is_true, no_space_is_said}
use Rattle.nl_core.proofs.laws.space_is_judged_exactly.Goals as goal

pub returns-clause-only : goal.returns-clause-only
returns-clause-only c = λ told. no_space_is_true (allowed_where told)

pub returns-clause-always : goal.returns-clause-always
returns-clause-always c = λ told. no_space_is_said (allowed_where told)
