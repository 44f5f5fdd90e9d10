use Rattle.nl_lib.proofs.Replies.{is_done}
use Rattle.nl_lib.proofs.changes.apply.Goals as goal

pub returns : goal.returns
returns g c =
    is_done c.args.pen.now c.applied.new.pen c.args.event c.applied.result c.without_answer.result c.applied.ensures
    c.without_answer.ensures
