use Rattle.std.proofs.Common.{List, ℕ, inl, subst}
use Rattle.nl_types.specs.declared.event.Change.TheVariants as change
use Rattle.nl_types.specs.declared.event.Event.TheVariants as event
use Rattle.nl_mounts.specs.TypedCalls.{HasDone}
use Rattle.nl_mounts.proofs.Replies.{has_done}
use Rattle.nl_mounts.proofs.shared.Shared.rename.Goals as goal

pub returns : goal.returns
returns g c =
    inl (subst (λ (to : List ℕ). HasDone (event.Apply (change.Rename c.args.from.now to)) c.without_answer.result)
    c.in-Ok.ensures.second
    (subst (λ (from : List ℕ). HasDone (event.Apply (change.Rename from c.in-Ok.to)) c.without_answer.result)
    c.in-Ok.ensures.first
    (has_done _ c.applied.result c.without_answer.result c.applied.ensures c.without_answer.ensures)))
