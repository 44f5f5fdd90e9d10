use Rattle.nl_core.specs.Facts.Refusals.{memory_is_taken}
use Rattle.nl_core.proofs.laws.memory_is_refused_where_it_is_taken.Goals as goal

pub returns : goal.returns
returns c = memory_is_taken
