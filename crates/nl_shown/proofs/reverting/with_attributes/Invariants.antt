use Rattle.std.proofs.Common.{◌≡◌, ◌++◌}
use Rattle.std.specs.Vec.Iter.{into_iter_items}
use Rattle.nl_shown.specs.Private.Inserting.{with_attributes}
use Rattle.nl_shown.proofs.reverting.with_attributes.Given as goal

abbrev pub invariant-loop-entry : goal.invariant-loop-entry
invariant-loop-entry l =
    l.all ++ with_attributes l.path l.earlier (into_iter_items l.entry-iterator)
    ≡ with_attributes l.path l.earlier l.fn.tree
