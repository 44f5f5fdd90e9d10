use Rattle.std.proofs.Common.{◌≡◌, take}
use Rattle.nl_blocktree.specs.Private.Edits.{edits_from}
use Rattle.nl_blocktree.proofs.slots.edits_of.Given as goal

abbrev pub invariant-loop-offset : goal.invariant-loop-offset
invariant-loop-offset l = l.told.items ≡ edits_from 0 (take l.offset l.slots)
