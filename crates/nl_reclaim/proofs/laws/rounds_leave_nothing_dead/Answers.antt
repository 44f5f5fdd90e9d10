use Rattle.nl_reclaim.specs.Facts.Rounds.{rounds-leave-nothing-dead}
use Rattle.nl_reclaim.proofs.laws.rounds_leave_nothing_dead.Goals as goal

pub returns : goal.returns
returns c = rounds-leave-nothing-dead
