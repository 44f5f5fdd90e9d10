use Rattle.nl_cpfile.specs.Facts.ImageEntries.{AreRisingBelow}
use Rattle.nl_cpfile.proofs.images.are_rising.Given as goal

abbrev pub invariant-loop-i : goal.invariant-loop-i
invariant-loop-i l = AreRisingBelow l.kept l.i
