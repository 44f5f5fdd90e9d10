use Rattle.nl_keep.specs.Private.Costs.{IsMadeSoFar}
use Rattle.nl_keep.proofs.making.make.Given as goal

abbrev pub invariant-loop-plan : goal.invariant-loop-plan
invariant-loop-plan g l =
    IsMadeSoFar l.present l.wanted l.plan.progress l.cost (g.V.Volume.means l.initial.volume)
    (g.V.Volume.means l.volume)

abbrev pub decreases-loop-plan : goal.decreases-loop-plan
decreases-loop-plan g l = l.plan.left
