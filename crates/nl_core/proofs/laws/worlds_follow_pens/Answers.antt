use Rattle.nl_commit.specs.Notes.{allowed_where}
use Rattle.nl_commit.specs.Facts.Leading.{leads_on, runs_lead_on}
use Rattle.nl_core.proofs.laws.worlds_follow_pens.Goals as goal

pub returns-clause-event : goal.returns-clause-event
returns-clause-event c = λ told. leads_on (allowed_where told)

pub returns-clause-events : goal.returns-clause-events
returns-clause-events c = λ told. runs_lead_on (allowed_where told)
