use Rattle.std.proofs.Common.{sym}
use Rattle.nl_tree.proofs.CurrentReads.{holding_listed}
use Rattle.nl_tree.proofs.current.CurrentTree.view.Goals as goal

pub returns : goal.returns
returns g c = λ b holds is. (
  is,
  (
    b,
    holds,
    sym (holding_listed c.self.inside.overlay c.args.self.now b c.self.invariant c.self.view_is),
  ),
)
