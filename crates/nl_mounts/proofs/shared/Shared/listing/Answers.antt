use Rattle.nl_types.specs.declared.reply.Answer.TheVariants as answer
use Rattle.nl_mounts.proofs.Replies.{has_answered, rows_reply}
use Rattle.nl_mounts.proofs.shared.Shared.listing.Goals as goal

pub rows_listed-requires : goal.rows_listed-requires
rows_listed-requires g c = rows_reply c.locked_runs_lead_on.ensures c.args.options.now c.applied.result c.applied.ensures

pub returns : goal.returns
returns g c = has_answered answer.Rows _ c.applied.result c.rows_listed.result c.applied.ensures c.rows_listed.ensures
