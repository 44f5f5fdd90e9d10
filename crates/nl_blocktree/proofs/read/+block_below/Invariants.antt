use Rattle.nl_blocktree.proofs.read.+block_below.Given as goal

abbrev pub decreases-block_below : goal.decreases-block_below
decreases-block_below g l = l.levels
