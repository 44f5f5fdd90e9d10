use Rattle.nl_dat.specs.Table.{AreInUse}
use Rattle.nl_dat.proofs.entries.first_free.Given as goal

abbrev pub invariant-loop-index : goal.invariant-loop-index
invariant-loop-index l = AreInUse l.table l.from l.index
