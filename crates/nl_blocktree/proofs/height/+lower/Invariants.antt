use Rattle.nl_blocktree.proofs.height.+lower.Given as goal

abbrev pub decreases-lower : goal.decreases-lower
decreases-lower g l = l.height
