use Rattle.nl_publish.specs.Facts.Staying.{history_state}
use Rattle.nl_publish.proofs.laws.histories_show_states.Goals as goal

pub returns : goal.returns
returns c = history_state
