use Rattle.nl_reclaim.proofs.Runs.{points-make-a-run}
use Rattle.nl_reclaim.proofs.ends.run.Goals as goal

pub returns : goal.returns
returns c =
    points-make-a-run c.args.ended.now c.args.first c.args.next _ _ c.requires.order c.reach.ensures.bound
    c.reach-2.ensures.bound c.reach.ensures.point c.reach-2.ensures.point
