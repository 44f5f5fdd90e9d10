use Rattle.nl_dat.proofs.TakenBlocks.{IsTakenBelow}
use Rattle.nl_dat.proofs.images.are_apart.Given as goal

abbrev pub invariant-loop-entry : goal.invariant-loop-entry
invariant-loop-entry l = IsTakenBelow l.numbers l.blocks l.entry-index l.taken
