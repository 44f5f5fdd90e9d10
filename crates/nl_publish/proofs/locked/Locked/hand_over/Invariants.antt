use Rattle.nl_publish.specs.Locks.{StaysHeld}
use Rattle.nl_publish.proofs.locked.Locked.hand_over.Given as goal

abbrev pub invariant-loop-self : goal.invariant-loop-self
invariant-loop-self g l = StaysHeld l.fn.self l.self

abbrev pub decreases-loop-self : goal.decreases-loop-self
decreases-loop-self g l = l.self.unsent
