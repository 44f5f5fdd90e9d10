use Rattle.std.proofs.Common.{◌≡◌, ◌++◌}
use Rattle.std.specs.Vec.Iter.{into_iter_items}
use Rattle.nl_shown.specs.Private.Inserting.{inside}
use Rattle.nl_shown.proofs.reverting.inside.Given as goal

abbrev pub invariant-loop-entry : goal.invariant-loop-entry
invariant-loop-entry l = l.part ++ inside l.top (into_iter_items l.entry-iterator) ≡ inside l.top l.fn.tree
