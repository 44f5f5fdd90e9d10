use Rattle.std.proofs.Common.{ap, Err}
use Rattle.nl_types.specs.declared.error.VolError.{VolError}
use Rattle.nl_publish.specs.Locks.{NotBegun}
use Rattle.nl_publish.proofs.Running.{ran}
use Rattle.nl_publish.proofs.locked.Locked.do_event.Goals as goal

pub returns-in-Err : goal.returns-in-Err
returns-in-Err g c = NotBegun c.in-Err.ensures.begun.1 (ap (λ (e : VolError). Err e) c.in-Err.ensures.begun.0)

pub returns : goal.returns
returns g c =
    ran c.args.self.now c.begin.new.self c.run-reply.new.self c.publish_pending.new.self c.args.event.now
    c.run-reply.result c.in_default.ensures.begun c.run-reply.ensures c.publish_pending.ensures.sent
    c.publish_pending.ensures.tried
