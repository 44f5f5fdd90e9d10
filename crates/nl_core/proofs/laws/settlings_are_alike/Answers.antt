use Rattle.nl_events.specs.Facts.Settlings.{settlings_are_alike}
use Rattle.nl_core.proofs.laws.settlings_are_alike.Goals as goal

pub returns : goal.returns
returns c = settlings_are_alike
