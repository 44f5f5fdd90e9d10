use Rattle.std.proofs.Common.{sym, subst}
use Rattle.nl_types.specs.declared.event.Event.{Event}
use Rattle.nl_types.specs.Plain.Worlds.{IsDoneUnlessMemory, step}
use Rattle.nl_model.specs.Model.{cleaned_by}
use Rattle.nl_model.proofs.world.World.apply.Goals as goal

pub returns-in-Expire : goal.returns-in-Expire
returns-in-Expire c =
    subst (λ (e : Event).
    IsDoneUnlessMemory c.expire.result c.expire.new.self c.args.self.now
    (step (cleaned_by c.args.cleaned.now) c.args.self.now e))
    (sym c.in-Expire.is) c.expire.ensures
