use Rattle.std.proofs.Common.{length}
use Rattle.nl_host.proofs.selection.+is_begun.Given as goal

abbrev pub decreases-is_begun : goal.decreases-is_begun
decreases-is_begun l = length l.begin.now
