use Rattle.std.proofs.Common.{◌≡◌, ◌++◌}
use Rattle.std.specs.Vec.Iter.{into_iter_items}
use Rattle.nl_pins.specs.Trees.{without_pins}
use Rattle.nl_pins.proofs.trees.without_pins.Given as goal

abbrev pub invariant-loop-entry : goal.invariant-loop-entry
invariant-loop-entry g l = l.rest ++ without_pins (into_iter_items l.entry-iterator) ≡ without_pins l.fn.tree
