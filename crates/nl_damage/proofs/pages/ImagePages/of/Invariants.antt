use Rattle.nl_damage.proofs.ReadNumbers.{AreReadUpTo}
use Rattle.nl_damage.proofs.pages.ImagePages.of.Given as goal

abbrev pub invariant-loop-number : goal.invariant-loop-number
invariant-loop-number l = AreReadUpTo l.sections l.number l.table.items
