use Rattle.std.proofs.Common.{subst}
use Rattle.nl_commit.specs.Layout.{Does, unshared}
use Rattle.nl_core.proofs.pen.Pen.apply.Goals as goal

pub returns : goal.returns
returns g c =
    subst (λ o. Does unshared o c.args.event.now c.step.result c.step.new.self) c.self.view_is
    c.step.ensures.does
