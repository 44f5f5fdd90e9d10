use Rattle.std.proofs.Common.{List, ℕ, inl, subst}
use Rattle.nl_types.specs.declared.event.Change.TheVariants as change
use Rattle.nl_types.specs.declared.event.Event.TheVariants as event
use Rattle.nl_types.specs.declared.reply.Answer.TheVariants as answer
use Rattle.nl_mounts.specs.TypedCalls.{HasAnswered}
use Rattle.nl_mounts.proofs.Replies.{has_answered, write_reply}
use Rattle.nl_mounts.proofs.shared.Shared.write.Goals as goal

pub written-requires : goal.written-requires
written-requires g c =
    write_reply c.locked_runs_lead_on.ensures c.in-Ok.path c.args.offset c.in-Ok.bytes c.applied.result
    c.applied.ensures

pub returns : goal.returns
returns g c =
    inl (subst (λ (bytes : List ℕ).
    HasAnswered answer.Written (event.Apply (change.Write c.args.path.now c.args.offset bytes)) c.written.result)
    c.in-Ok.ensures.second
    (subst (λ (path : List ℕ).
    HasAnswered answer.Written (event.Apply (change.Write path c.args.offset c.in-Ok.bytes)) c.written.result)
    c.in-Ok.ensures.first
    (has_answered answer.Written _ c.applied.result c.written.result c.applied.ensures c.written.ensures)))
