use Rattle.nl_types.specs.declared.reply.Answer.TheVariants as answer
use Rattle.nl_mounts.proofs.Replies.{has_answered, checkpoint_reply}
use Rattle.nl_mounts.proofs.shared.Shared.make_checkpoint.Goals as goal

pub checkpoint_made-requires : goal.checkpoint_made-requires
checkpoint_made-requires g c = checkpoint_reply c.locked_runs_lead_on.ensures c.args.mode c.args.moment c.applied.result c.applied.ensures

pub returns : goal.returns
returns g c = has_answered answer.Checkpoint _ c.applied.result c.checkpoint_made.result c.applied.ensures c.checkpoint_made.ensures
