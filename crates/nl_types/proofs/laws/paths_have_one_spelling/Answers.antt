use Rattle.nl_types.proofs.Spellings.{paths_have_one_spelling}
use Rattle.nl_types.proofs.laws.paths_have_one_spelling.Goals as goal

pub returns : goal.returns
returns c = paths_have_one_spelling
