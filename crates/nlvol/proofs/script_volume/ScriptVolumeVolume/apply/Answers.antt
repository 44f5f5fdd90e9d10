use Rattle.std.proofs.Common.{refl, subst, sym}
use Rattle.nl_types.specs.declared.event.Event.{Event}
use Rattle.nl_publish.specs.Facts.MountEvents.{no_mount}
use Rattle.nlvol.specs.SharedVolumes.{Sharing, shared_does}
use Rattle.nlvol.proofs.SharedEvents.{others_do}
use Rattle.nlvol.proofs.script_volume.ScriptVolumeVolume.apply.Goals as goal

pub returns-in-Mount : goal.returns-in-Mount
returns-in-Mount g c =
    subst (λ (e : Event). shared_does c.args.self.now e c.mount.result c.mount.new.self)
    (sym c.in-Mount.is) c.mount.ensures

pub returns-in-Unmount : goal.returns-in-Unmount
returns-in-Unmount g c =
    subst (λ (e : Event). shared_does c.args.self.now e c.unmount.result c.unmount.new.self)
    (sym c.in-Unmount.is)
    (c.unmount.ensures.ran, c.unmount.ensures.mounts)

pub returns-in-MountRead : goal.returns-in-MountRead
returns-in-MountRead g c =
    subst (λ (e : Event). shared_does c.args.self.now e c.read.result c.read.new.self)
    (sym c.in-MountRead.is) c.read.ensures

pub returns-in_default : goal.returns-in_default
returns-in_default g c =
    let new : Sharing = record { held = c.apply.new.self; mounts = c.self.inside.mounts.items } in
    let old : Sharing = record { held = c.self.inside.locked; mounts = c.self.inside.mounts.items } in
    subst (λ (s : Sharing). shared_does s c.args.event.now c.apply.result new) c.self.view_is
    (others_do old new c.args.event.now c.apply.result c.in_default.not-Mount c.in_default.not-Unmount
    c.in_default.not-MountRead
    c.apply.ensures refl)

pub apply-requires : goal.apply-requires
apply-requires g c = no_mount c.args.event.now c.in_default.not-Mount c.in_default.not-Unmount
