use Rattle.nl_folders.specs.Private.Sides.{AreFree}
use Rattle.nl_folders.proofs.sides.are_free.Given as goal

abbrev pub invariant-loop-place : goal.invariant-loop-place
invariant-loop-place l = AreFree l.flags l.from l.place
