use Rattle.nl_cleaner.proofs.Rounds.{rounds-leave-nothing}
use Rattle.nl_cleaner.proofs.laws.rounds_leave_nothing_dead.Goals as goal

pub returns : goal.returns
returns c = rounds-leave-nothing
