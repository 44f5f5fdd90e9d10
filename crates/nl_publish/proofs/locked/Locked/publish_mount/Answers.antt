use Rattle.std.proofs.Common.{ap, refl, Err}
use Rattle.nl_types.specs.declared.error.VolError.{VolError}
use Rattle.nl_publish.specs.Locks.{Pending, Refused, Stuck}
use Rattle.nl_publish.proofs.Running.{clear, mount_done, none_lost, pending_still, ready_still}
use Rattle.nl_publish.proofs.locked.Locked.publish_mount.Goals as goal

pub returns-in-Err : goal.returns-in-Err
returns-in-Err g c = Stuck c.in-Err.ensures.begun.1 (ap (λ (e : VolError). Err e) c.in-Err.ensures.begun.0)

pub returns-then-not-publish_pending : goal.returns-then-not-publish_pending
returns-then-not-publish_pending g c =
    Pending (ready_still c.args.self.now c.begin.new.self c.publish_pending.new.self c.in_default.ensures.begun
    c.publish_pending.ensures.sent)
    (pending_still c.args.self.now c.begin.new.self c.publish_pending.new.self c.in_default.ensures.begun c.publish_pending.ensures.tried
    c.if-not-publish_pending.ensures.settled)
    refl

pub returns-in-Err-run_mount : goal.returns-in-Err-run_mount
returns-in-Err-run_mount g c =
    let all =
    clear c.args.self.now c.begin.new.self c.publish_pending.new.self c.in_default.ensures.begun c.publish_pending.ensures.sent
    c.if-not-publish_pending.ensures.settled in
    Refused c.publish_pending.new.self c.in-Err-run_mount.refusal all c.in-Err-run_mount.ensures refl

pub finish_mount-requires : goal.finish_mount-requires
finish_mount-requires g c =
    let all =
    clear c.args.self.now c.begin.new.self c.publish_pending.new.self c.in_default.ensures.begun c.publish_pending.ensures.sent
    c.if-not-publish_pending.ensures.settled in
    none_lost c.args.self.now c.publish_pending.new.self c.run_mount.new.self c.args.checkpoint all c.run_mount.result
    c.run_mount.ensures

pub returns-in-Ok : goal.returns-in-Ok
returns-in-Ok g c =
    let all =
    clear c.args.self.now c.begin.new.self c.publish_pending.new.self c.in_default.ensures.begun c.publish_pending.ensures.sent
    c.if-not-publish_pending.ensures.settled in
    mount_done c.args.self.now c.publish_pending.new.self c.run_mount.new.self c.args.checkpoint all c.in-Ok.number
    c.finish_mount.result c.finish_mount.new.self
    c.in-Ok.ensures c.finish_mount.ensures
