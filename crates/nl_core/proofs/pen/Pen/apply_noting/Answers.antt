use Rattle.std.proofs.Common.{subst}
use Rattle.nl_commit.specs.Notes.{DoesNoting}
use Rattle.nl_core.proofs.pen.Pen.apply_noting.Goals as goal

pub returns : goal.returns
returns g c =
    subst (λ o. DoesNoting o c.args.event.now c.step.result c.step.new.self
    c.args.notes.now.items c.step.new.notes.items)
    c.self.view_is c.step.ensures
