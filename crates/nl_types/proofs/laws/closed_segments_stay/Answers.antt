use Rattle.nl_types.specs.Facts.ClosedSegments.{closed-no-log, closed-stay, closed-stay-at-faults}
use Rattle.nl_types.proofs.laws.closed_segments_stay.Goals as goal

pub returns-clause-no_log : goal.returns-clause-no_log
returns-clause-no_log c = closed-no-log

pub returns-clause-stay : goal.returns-clause-stay
returns-clause-stay c = closed-stay

pub returns-clause-at_faults : goal.returns-clause-at_faults
returns-clause-at_faults c = closed-stay-at-faults
