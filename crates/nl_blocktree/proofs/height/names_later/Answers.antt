use Rattle.std.proofs.Common.{arith}
use Rattle.nl_blocktree.proofs.height.names_later.Goals as goal

pub returns-clause-none : goal.returns-clause-none
returns-clause-none c = λ f t one low. c.loop-at.invariant t one (omega arith)
