use Rattle.nl_types.specs.Facts.CallLookups.{same_lookups_are_one_tree}
use Rattle.nl_types.proofs.laws.look_ups_make_trees.Goals as goal

pub returns : goal.returns
returns c = same_lookups_are_one_tree
