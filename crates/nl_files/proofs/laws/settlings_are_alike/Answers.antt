use Rattle.nl_files.specs.Facts.OneSettling.{clean-write_nothing, settlings-alike}
use Rattle.nl_files.proofs.laws.settlings_are_alike.Goals as goal

pub returns-clause-alike : goal.returns-clause-alike
returns-clause-alike c = settlings-alike

pub returns-clause-clean : goal.returns-clause-clean
returns-clause-clean c = clean-write_nothing
