use Rattle.nl_reclaim.proofs.StayingCounts.{unused-is-counted}
use Rattle.nl_reclaim.proofs.counting_laws.unused_stores_are_counted.Goals as goal

pub returns : goal.returns
returns c = unused-is-counted c.needed_numbers_are_counted.ensures
