use Rattle.std.proofs.Common.{◌≡◌, ◌++◌}
use Rattle.std.specs.Vec.Iter.{into_iter_items}
use Rattle.nl_shown.specs.Unknown.{with_private}
use Rattle.nl_shown.proofs.unknown.with_private.Given as goal

abbrev pub invariant-loop-entry : goal.invariant-loop-entry
invariant-loop-entry l = l.all ++ with_private (into_iter_items l.entry-iterator) ≡ with_private l.fn.tree
