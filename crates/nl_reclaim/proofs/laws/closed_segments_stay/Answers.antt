use Rattle.nl_reclaim.specs.Facts.ClosedSegments.{moves-keep-closed, refused-moves-keep-closed, retirements-keep-others}
use Rattle.nl_reclaim.proofs.laws.closed_segments_stay.Goals as goal

pub returns-clause-moved : goal.returns-clause-moved
returns-clause-moved c = moves-keep-closed

pub returns-clause-refused : goal.returns-clause-refused
returns-clause-refused c = refused-moves-keep-closed

pub returns-clause-retired : goal.returns-clause-retired
returns-clause-retired c = retirements-keep-others
