use Rattle.std.proofs.Common.{◌∙◌, inr, refl, subst, sym}
use Rattle.nl_types.specs.declared.event.Event.{Event}
use Rattle.nl_publish.specs.Locks.{IsNoMountEvent, Ran}
use Rattle.nlvol.specs.SharedVolumes.{ReadComes, Sharing}
use Rattle.nlvol.proofs.script_volume.ScriptVolume.read.Goals as goal

pub returns-in-None : goal.returns-in-None
returns-in-None g c =
    let new : Sharing = record { held = c.apply.new.self; mounts = c.self.inside.mounts.items } in
    let ran =
    subst (λ (e : Event). Ran c.self.inside.locked e c.apply.result c.apply.new.self) c.requires
    c.apply.ensures in
    subst (λ (s : Sharing). ReadComes s c.args.number c.args.ask.now c.apply.result new)
    (c.self.view_is ∙ c.told.ensures.same) (inr (ran, refl))

pub apply-requires : goal.apply-requires
apply-requires g c = subst IsNoMountEvent (sym c.requires) tt
