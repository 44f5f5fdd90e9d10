use Rattle.std.proofs.Common.{◌-◌}
use Rattle.nl_blocktree.proofs.levels.+climb.Given as goal

abbrev pub decreases-climb : goal.decreases-climb
decreases-climb g l = l.height - l.below
