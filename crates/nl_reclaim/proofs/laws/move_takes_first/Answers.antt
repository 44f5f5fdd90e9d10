use Rattle.nl_reclaim.specs.Facts.Moves.{move-takes-first}
use Rattle.nl_reclaim.proofs.laws.move_takes_first.Goals as goal

pub returns : goal.returns
returns c = move-takes-first
