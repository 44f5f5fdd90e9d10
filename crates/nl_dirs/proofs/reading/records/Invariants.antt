use Rattle.std.proofs.Common.{length}
use Rattle.nl_dirs.proofs.PageReading.{IsReadSoFar}
use Rattle.nl_dirs.proofs.reading.records.Given as goal

abbrev pub invariant-loop-record : goal.invariant-loop-record
invariant-loop-record l = IsReadSoFar l.page l.records.items l.rest

abbrev pub decreases-loop-record : goal.decreases-loop-record
decreases-loop-record l = length l.rest
