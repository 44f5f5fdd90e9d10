use Rattle.nl_cleaner.proofs.CleanRuns.{segments-come-clean}
use Rattle.nl_cleaner.proofs.laws.segments_come_clean.Goals as goal

pub returns : goal.returns
returns c = segments-come-clean
