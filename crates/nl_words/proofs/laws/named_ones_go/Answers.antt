use Rattle.nl_words.proofs.Leaving.{named_ones_go}
use Rattle.nl_words.proofs.laws.named_ones_go.Goals as goal

pub returns : goal.returns
returns c = named_ones_go
