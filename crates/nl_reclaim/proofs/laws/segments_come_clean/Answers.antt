use Rattle.nl_reclaim.specs.Facts.Moves.{segments-come-clean, full-moves-come-clean}
use Rattle.nl_reclaim.proofs.laws.segments_come_clean.Goals as goal

pub returns-clause-plain : goal.returns-clause-plain
returns-clause-plain c = segments-come-clean

pub returns-clause-full : goal.returns-clause-full
returns-clause-full c = full-moves-come-clean
