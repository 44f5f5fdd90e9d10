use Rattle.std.proofs.Common.{◌≡◌, ◌++◌}
use Rattle.std.specs.Vec.Iter.{into_iter_items}
use Rattle.nl_pins.specs.Trees.{before_pins, behind_pins}
use Rattle.nl_pins.proofs.trees.parted.Given as goal

abbrev pub invariant-loop-entry : goal.invariant-loop-entry
invariant-loop-entry l = record {
  before : l.before ++ before_pins (into_iter_items l.entry-iterator) ≡ before_pins l.fn.tree;
  behind : l.behind ++ behind_pins (into_iter_items l.entry-iterator) ≡ behind_pins l.fn.tree;
}
