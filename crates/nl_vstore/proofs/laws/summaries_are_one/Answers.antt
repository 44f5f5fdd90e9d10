use Rattle.nl_vstore.specs.Facts.StoredLogs.{one_list_stands, row-of_logs}
use Rattle.nl_vstore.proofs.laws.summaries_are_one.Goals as goal

pub returns-clause-one : goal.returns-clause-one
returns-clause-one c = one_list_stands

pub returns-clause-rows : goal.returns-clause-rows
returns-clause-rows c = row-of_logs
