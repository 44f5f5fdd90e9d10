use Rattle.std.proofs.Common.{inl, ap, ◌∙◌, subst}
use Rattle.nl_types.specs.declared.event.Change.{Change}
use Rattle.nl_types.specs.declared.event.Event.TheVariants as event
use Rattle.nl_types.specs.Changes.{change_at}
use Rattle.nl_mounts.specs.TypedCalls.{HasDone}
use Rattle.nl_mounts.proofs.Replies.{has_done}
use Rattle.nl_mounts.proofs.shared.Shared.change_path.Goals as goal

pub returns : goal.returns
returns g c =
    inl (subst (λ (d : Change). HasDone (event.Apply d) c.without_answer.result)
    (c.change.ensures ∙ ap (change_at c.args.call) c.in-Ok.ensures)
    (has_done _ c.applied.result c.without_answer.result c.applied.ensures c.without_answer.ensures))
