use Rattle.nl_commit.specs.Notes.{allowed_where}
use Rattle.nl_events.specs.Facts.Removals.{expiries_go_one_by_one, ranges_go_one_by_one}
use Rattle.nl_core.proofs.laws.ranges_go_one_by_one.Goals as goal

pub returns-clause-ranges : goal.returns-clause-ranges
returns-clause-ranges c = λ told. ranges_go_one_by_one (allowed_where told)

pub returns-clause-expiries : goal.returns-clause-expiries
returns-clause-expiries c = λ told. expiries_go_one_by_one (allowed_where told)
