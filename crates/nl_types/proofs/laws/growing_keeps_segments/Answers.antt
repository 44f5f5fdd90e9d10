use Rattle.nl_types.proofs.GrownSegments.{active-stays, clean-grow, infos-stay, tidy-stays, used-stays}
use Rattle.nl_types.proofs.laws.growing_keeps_segments.Goals as goal

pub returns-clause-infos : goal.returns-clause-infos
returns-clause-infos c = infos-stay

pub returns-clause-used : goal.returns-clause-used
returns-clause-used c = used-stays

pub returns-clause-tidy : goal.returns-clause-tidy
returns-clause-tidy c = tidy-stays

pub returns-clause-active : goal.returns-clause-active
returns-clause-active c = active-stays

pub returns-clause-clean : goal.returns-clause-clean
returns-clause-clean c = clean-grow
