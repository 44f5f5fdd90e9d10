use Rattle.nl_script.proofs.RoundSteps.{round-more}
use Rattle.nl_script.proofs.rounds.run_steps.Goals as goal

pub loop-reply-preserved : goal.loop-reply-preserved
loop-reply-preserved g c =
    round-more g.V.Volume.habits.steps c.args.job c.args.volume.now c.loop-reply.job c.loop-reply.volume
    c.loop-reply.sum c.loop-reply.invariant
    c.clean_step.new.job c.clean_step.new.self c.in-Some.reply c.with_reply-sum.result c.in-Some.ensures.steps
    c.with_reply-sum.ensures
