use Rattle.nl_dat.specs.TakenOut.{HasTakenOut}
use Rattle.nl_dat.proofs.reclaim.take_out.Given as goal

abbrev pub invariant-loop-position : goal.invariant-loop-position
invariant-loop-position l = HasTakenOut l.first l.position l.fn.table l.table l.taken
