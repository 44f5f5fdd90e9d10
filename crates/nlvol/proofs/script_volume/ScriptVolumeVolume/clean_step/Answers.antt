use Rattle.std.proofs.Common.{refl, subst}
use Rattle.nlvol.specs.SharedVolumes.{Sharing, shared_steps}
use Rattle.nlvol.proofs.script_volume.ScriptVolumeVolume.clean_step.Goals as goal

pub returns-clause-steps : goal.returns-clause-steps
returns-clause-steps g c =
    let new : Sharing = record { held = c.step_round.new.locked; mounts = c.self.inside.mounts.items } in
    let rounds = g.G.Round.habits in
    subst (λ (s : Sharing).
    shared_steps rounds s c.args.job.now c.step_round.result new c.step_round.new.round)
    c.self.view_is
    (c.step_round.ensures.stepped, refl)
