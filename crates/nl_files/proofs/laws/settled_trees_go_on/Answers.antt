use Rattle.nl_files.specs.Facts.TreeLaws.{settled_trees-go_on, trees-can_be_settled}
use Rattle.nl_files.proofs.laws.settled_trees_go_on.Goals as goal

pub returns-clause-before : goal.returns-clause-before
returns-clause-before c = trees-can_be_settled

pub returns-clause-after : goal.returns-clause-after
returns-clause-after c = settled_trees-go_on
