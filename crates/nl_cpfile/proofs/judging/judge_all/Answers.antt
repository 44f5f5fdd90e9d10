use Rattle.std.proofs.Common.{arith}
use Rattle.nl_cpfile.proofs.Ranges.{judged-more}
use Rattle.nl_cpfile.proofs.judging.judge_all.Goals as goal

pub loop-checkpoint-preserved : goal.loop-checkpoint-preserved
loop-checkpoint-preserved c =
    judged-more c.args.latest c.args.first c.args.last c.args.kept.now c.loop-checkpoint.checkpoint-index
    c.checkpoint-item.result _ _
    (omega (arith, c.loop-checkpoint-test.true)) c.checkpoint-item.is c.loop-checkpoint.invariant
    c.in_ok-judge_one.ensures
