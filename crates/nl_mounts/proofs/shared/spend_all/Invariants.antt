use Rattle.nl_mounts.proofs.shared.spend_all.Given as goal

abbrev pub decreases-loop-mount : goal.decreases-loop-mount
decreases-loop-mount g l = goal.left-loop-mount g l
