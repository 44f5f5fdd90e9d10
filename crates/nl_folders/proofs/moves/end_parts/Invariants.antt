use Rattle.std.proofs.Common.{length}
use Rattle.nl_folders.proofs.moves.end_parts.Given as goal

abbrev pub decreases-loop-last : goal.decreases-loop-last
decreases-loop-last l = length l.open.items
