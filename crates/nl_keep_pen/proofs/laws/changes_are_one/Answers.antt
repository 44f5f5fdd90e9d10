use Rattle.nl_keep_pen.proofs.ChangeLists.{changes_are_one}
use Rattle.nl_keep_pen.proofs.laws.changes_are_one.Goals as goal

pub returns : goal.returns
returns c = changes_are_one
