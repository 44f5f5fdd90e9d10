use Rattle.nl_folders.specs.Private.Sides.{SetsFlags}
use Rattle.nl_folders.proofs.sides.set.Given as goal

abbrev pub invariant-loop-place : goal.invariant-loop-place
invariant-loop-place l = SetsFlags l.initial.flags l.flags l.from l.place
