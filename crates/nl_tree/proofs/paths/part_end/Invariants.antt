use Rattle.std.proofs.Common.{take}
use Rattle.nl_tree.specs.Private.PathParts.{IsOnePart}
use Rattle.nl_tree.proofs.paths.part_end.Given as goal

abbrev pub invariant-loop-i : goal.invariant-loop-i
invariant-loop-i l = IsOnePart (take l.i l.parts)
