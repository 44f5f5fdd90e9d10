use Rattle.nl_script.proofs.RoundSteps.{IsRoundSoFar}
use Rattle.nl_script.proofs.rounds.run_steps.Given as goal

-- the steps so far came to the sum so far
abbrev pub invariant-loop-reply : goal.invariant-loop-reply
invariant-loop-reply g l = IsRoundSoFar g.V.Volume.habits.steps l.fn.job l.job l.fn.volume l.volume l.sum

abbrev pub decreases-loop-reply : goal.decreases-loop-reply
decreases-loop-reply g l = g.V.Volume.habits.rounds.left l.job (g.V.Volume.habits.view l.volume)
