use Rattle.std.proofs.Common.{◌≡◌, ◌++◌}
use Rattle.std.specs.Vec.Iter.{into_iter_items}
use Rattle.nl_shown.specs.Reverted.{IsInOrder}
use Rattle.nl_shown.specs.Unknown.{with_lost}
use Rattle.nl_shown.proofs.unknown.with_lost.Given as goal

abbrev pub invariant-loop-entry : goal.invariant-loop-entry
invariant-loop-entry l =
    IsInOrder l.later → l.tree ++ with_lost l.later l.top (into_iter_items l.entry-iterator) ≡ with_lost l.later l.top l.fn.earlier
