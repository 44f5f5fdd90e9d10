use Rattle.nl_blocktree.proofs.path.+path_below.Given as goal

abbrev pub decreases-path_below : goal.decreases-path_below
decreases-path_below g l = l.levels
