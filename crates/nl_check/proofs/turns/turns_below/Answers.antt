use Rattle.std.proofs.Common.{arith}
use Rattle.nl_check.proofs.PeriodsBetween.{turns-more}
use Rattle.nl_check.proofs.turns.turns_below.Goals as goal

pub loop-at-preserved : goal.loop-at-preserved
loop-at-preserved g c =
    turns-more (g.V.VRead.periods c.args.store.now) c.loop-at.at c.new-number.result c.period.result
    c.loop-at.turns.items c.push_turns.new.turns.items c.loop-at.invariant c.new-number.ensures
    c.period.ensures c.in_ok-push_turns.ensures.ok

pub returns-clause-all : goal.returns-clause-all
returns-clause-all g c = λ v turn low there.
    let past = c.loop-at-test.false in c.loop-at.invariant v turn (omega (arith, low, past)) there
