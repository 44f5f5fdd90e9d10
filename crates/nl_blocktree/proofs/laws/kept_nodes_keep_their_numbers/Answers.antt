use Rattle.nl_blocktree.proofs.UnchangedNodes.{nodes_keep_numbers, nodes_stay}
use Rattle.nl_blocktree.proofs.laws.kept_nodes_keep_their_numbers.Goals as goal

pub returns-clause-same : goal.returns-clause-same
returns-clause-same c = nodes_keep_numbers

pub returns-clause-stay : goal.returns-clause-stay
returns-clause-stay c = nodes_stay
