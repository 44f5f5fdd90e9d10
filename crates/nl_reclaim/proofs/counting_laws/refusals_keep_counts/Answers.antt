use Rattle.nl_reclaim.proofs.StayingCounts.{moves-refused, writes-refused}
use Rattle.nl_reclaim.proofs.counting_laws.refusals_keep_counts.Goals as goal

pub returns-clause-written : goal.returns-clause-written
returns-clause-written c = writes-refused c.needed_numbers_are_counted.ensures

pub returns-clause-moved : goal.returns-clause-moved
returns-clause-moved c = moves-refused c.needed_numbers_are_counted.ensures
