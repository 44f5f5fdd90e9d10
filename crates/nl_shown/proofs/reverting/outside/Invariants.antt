use Rattle.std.proofs.Common.{◌≡◌, ◌++◌}
use Rattle.std.specs.Vec.Iter.{into_iter_items}
use Rattle.nl_shown.specs.Private.Inserting.{outside}
use Rattle.nl_shown.proofs.reverting.outside.Given as goal

abbrev pub invariant-loop-entry : goal.invariant-loop-entry
invariant-loop-entry l = l.rest ++ outside l.top (into_iter_items l.entry-iterator) ≡ outside l.top l.fn.tree
