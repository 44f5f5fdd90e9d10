use Rattle.nl_sufile.specs.Facts.ImageEntries.{IsActiveBelow}
use Rattle.nl_sufile.proofs.images.active_of.Given as goal

abbrev pub invariant-loop-number : goal.invariant-loop-number
invariant-loop-number l = IsActiveBelow l.each l.number l.active
