use Rattle.std.proofs.Common.{length}
use Rattle.nl_model.proofs.judging.+find_row.Given as goal

abbrev pub decreases-find_row : goal.decreases-find_row
decreases-find_row l = length l.rows.now
