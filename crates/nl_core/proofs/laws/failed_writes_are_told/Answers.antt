use Rattle.nl_commit.specs.Notes.{allowed_where}
use Rattle.nl_core.proofs.FailedWrites.{failed_writes_are_told}
use Rattle.nl_core.proofs.laws.failed_writes_are_told.Goals as goal

pub returns : goal.returns
returns c = λ told. failed_writes_are_told (allowed_where told)
