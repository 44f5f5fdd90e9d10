use Rattle.nl_check.proofs.ends.+end_below.Given as goal

abbrev pub decreases-end_below : goal.decreases-end_below
decreases-end_below g l = l.level
