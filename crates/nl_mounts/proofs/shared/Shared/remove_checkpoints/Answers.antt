use Rattle.nl_types.specs.declared.reply.Answer.TheVariants as answer
use Rattle.nl_mounts.proofs.Replies.{has_answered, range_reply}
use Rattle.nl_mounts.proofs.shared.Shared.remove_checkpoints.Goals as goal

pub range_removed-requires : goal.range_removed-requires
range_removed-requires g c = range_reply c.locked_runs_lead_on.ensures c.args.first c.args.last c.applied.result c.applied.ensures

pub returns : goal.returns
returns g c = has_answered answer.Removed _ c.applied.result c.range_removed.result c.applied.ensures c.range_removed.ensures
