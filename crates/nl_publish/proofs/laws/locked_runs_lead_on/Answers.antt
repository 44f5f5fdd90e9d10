use Rattle.nl_publish.proofs.Running.{locked_runs_lead_on}
use Rattle.nl_publish.proofs.laws.locked_runs_lead_on.Goals as goal

pub returns : goal.returns
returns c = locked_runs_lead_on
