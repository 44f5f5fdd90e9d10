use Rattle.nl_events.specs.Facts.States.{pen-state}
use Rattle.nl_core.proofs.laws.pens_show_states.Goals as goal

pub returns : goal.returns
returns c = pen-state
