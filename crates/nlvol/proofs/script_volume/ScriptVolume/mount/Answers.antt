use Rattle.std.proofs.Common.{◌∙◌, ◌++◌, ◌∷◌, [], List, ℕ, ap, refl, subst, Err, Ok}
use Rattle.nl_types.specs.declared.reply.Answer.TheVariants as answer
use Rattle.nl_publish.specs.Mounts.{Claim}
use Rattle.nlvol.specs.SharedVolumes.{MountComes, Mounted, Refused, Sharing}
use Rattle.nlvol.proofs.script_volume.ScriptVolume.mount.Goals as goal

pub returns-in-Err : goal.returns-in-Err
returns-in-Err g c =
    let new : Sharing = record { held = c.mount.new.self; mounts = c.reserve.new.self.items } in
    subst (λ (s : Sharing). MountComes s c.args.checkpoint (Err c.in-Err.refusal) new) c.self.view_is
    (Refused c.in-Err.refusal refl c.in-Err.ensures.ran c.reserve.ensures.items)

pub returns-in-Ok : goal.returns-in-Ok
returns-in-Ok g c =
    let m = c.in-Ok.mount in
    let held =
    c.push_reserved.ensures.items ∙ ap (λ (ms : List Claim). ms ++ m ∷ []) c.reserve.ensures.items in
    let reply = ap (λ (n : ℕ). Ok (answer.Mount n)) c.number-number.ensures in
    let new : Sharing = record { held = c.mount.new.self; mounts = c.push_reserved.new.self.items } in
    subst (λ (s : Sharing). MountComes s c.args.checkpoint (Ok (answer.Mount c.number-number.result)) new)
    c.self.view_is
    (Mounted m reply c.in-Ok.ensures.checkpoint c.in-Ok.ensures.told c.in-Ok.ensures.ran c.in-Ok.ensures.copy
    held)
