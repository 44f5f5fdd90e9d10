use Rattle.std.proofs.Common.{length}
use Rattle.nl_dirs.proofs.Holding.{IsNotYetFound}
use Rattle.nl_dirs.proofs.reading.find.Given as goal

abbrev pub invariant-loop-record : goal.invariant-loop-record
invariant-loop-record l = IsNotYetFound l.page l.name l.rest

abbrev pub decreases-loop-record : goal.decreases-loop-record
decreases-loop-record l = length l.rest
