use Rattle.nl_publish.specs.Facts.CachedPages.{kept_trees_stay}
use Rattle.nl_publish.proofs.laws.kept_trees_stay.Goals as goal

pub returns : goal.returns
returns c = kept_trees_stay
