use Rattle.nl_keep.proofs.Lastings.{stores_keep_copies}
use Rattle.nl_keep.proofs.laws.stores_keep_copies.Goals as goal

pub returns : goal.returns
returns c = stores_keep_copies
