use Rattle.std.proofs.Common.{refl}
use Rattle.nl_publish.proofs.Counting.{refused_on}
use Rattle.nl_publish.proofs.Running.{keeps_on, keeps_same}
use Rattle.nl_publish.proofs.locked.Locked.hand_over.Goals as goal

pub loop-self-init : goal.loop-self-init
loop-self-init g c = keeps_same c.args.self.now c.args.self.now refl

pub loop-self-preserved : goal.loop-self-preserved
loop-self-preserved g c =
    keeps_on c.args.self.now c.loop-self.self c.hand_one.new.self c.loop-self.invariant c.hand_one.ensures.kept

pub loop-self-smaller : goal.loop-self-smaller
loop-self-smaller g c = c.if-not-hand_one.ensures.handed

pub returns-then-not-hand_one-clause-kept : goal.returns-then-not-hand_one-clause-kept
returns-then-not-hand_one-clause-kept g c =
    keeps_on c.args.self.now c.loop-self.self c.hand_one.new.self c.loop-self.invariant c.hand_one.ensures.kept

pub returns-then-not-hand_one-clause-handed : goal.returns-then-not-hand_one-clause-handed
returns-then-not-hand_one-clause-handed g c =
    refused_on c.args.self.now.refusals c.loop-self.self.refusals c.hand_one.new.self.refusals
    c.loop-self.invariant.0.counts c.if-not-hand_one.ensures.handed

pub returns-clause-kept : goal.returns-clause-kept
returns-clause-kept g c = c.loop-self.invariant
