use Rattle.nl_mounts.proofs.Replies.{has_done}
use Rattle.nl_mounts.proofs.shared.Shared.change_cpmode.Goals as goal

pub returns : goal.returns
returns g c = has_done _ c.applied.result c.without_answer.result c.applied.ensures c.without_answer.ensures
