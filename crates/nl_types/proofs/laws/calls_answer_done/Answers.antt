use Rattle.nl_types.specs.Facts.CallLookups.{calls_answer_done}
use Rattle.nl_types.proofs.laws.calls_answer_done.Goals as goal

pub returns : goal.returns
returns c = calls_answer_done
