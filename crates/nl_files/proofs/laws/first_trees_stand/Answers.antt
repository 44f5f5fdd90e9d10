use Rattle.nl_files.specs.Facts.TreeLaws.{empty_roots-hold_nothing, first_trees-stand}
use Rattle.nl_files.proofs.laws.first_trees_stand.Goals as goal

pub returns-clause-tree : goal.returns-clause-tree
returns-clause-tree c = first_trees-stand

pub returns-clause-checkpoint : goal.returns-clause-checkpoint
returns-clause-checkpoint c = empty_roots-hold_nothing
