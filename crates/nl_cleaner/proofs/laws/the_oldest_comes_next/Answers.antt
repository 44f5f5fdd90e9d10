use Rattle.nl_cleaner.proofs.Oldest.{the-oldest-comes-next}
use Rattle.nl_cleaner.proofs.laws.the_oldest_comes_next.Goals as goal

pub returns : goal.returns
returns c = the-oldest-comes-next
