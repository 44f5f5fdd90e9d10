use Rattle.nl_check.specs.Facts.Forming.{formed_trees_are_meant, meant_trees_are_formed}
use Rattle.nl_check.proofs.laws.inodes_form_trees.Goals as goal

pub returns-clause-meant : goal.returns-clause-meant
returns-clause-meant c = formed_trees_are_meant

pub returns-clause-formed : goal.returns-clause-formed
returns-clause-formed c = meant_trees_are_formed
