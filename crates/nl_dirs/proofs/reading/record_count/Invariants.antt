use Rattle.std.proofs.Common.{length}
use Rattle.nl_dirs.proofs.Counting.{IsCounted}
use Rattle.nl_dirs.proofs.reading.record_count.Given as goal

abbrev pub invariant-loop-behind : goal.invariant-loop-behind
invariant-loop-behind l = IsCounted l.page l.count l.rest

abbrev pub decreases-loop-behind : goal.decreases-loop-behind
decreases-loop-behind l = length l.rest
