use Rattle.nl_types.proofs.MinorCopies.{idle_moves_stay, moves_make_minors}
use Rattle.nl_types.proofs.laws.moves_make_minors.Goals as goal

pub returns-clause-makes : goal.returns-clause-makes
returns-clause-makes c = moves_make_minors

pub returns-clause-idle : goal.returns-clause-idle
returns-clause-idle c = idle_moves_stay
