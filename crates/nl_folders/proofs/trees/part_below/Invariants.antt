use Rattle.std.proofs.Common.{◌≡◌, ◌++◌}
use Rattle.std.specs.Vec.Iter.{into_iter_items}
use Rattle.nl_folders.specs.Parts.{part_below}
use Rattle.nl_folders.proofs.trees.part_below.Given as goal

abbrev pub invariant-loop-entry : goal.invariant-loop-entry
invariant-loop-entry g l =
    l.part ++ part_below (into_iter_items l.entry-iterator) l.top ≡ part_below l.fn.entries l.top
