use Rattle.nl_commit.specs.Notes.{allowed_where}
use Rattle.nl_core.proofs.LedgerEvents.{runs_keep_numbers}
use Rattle.nl_core.proofs.laws.runs_keep_numbers.Goals as goal

pub returns : goal.returns
returns c = λ told. runs_keep_numbers (allowed_where told) c.covered_numbers_stay.ensures c.numbers_end_once.ensures.all
