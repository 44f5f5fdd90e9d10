use Rattle.std.proofs.Common.{◌≡◌, ◌++◌}
use Rattle.std.specs.Iterator.Adapters.{zip_first, zip_second}
use Rattle.std.specs.List.{zip}
use Rattle.std.specs.Slice.Iter.{iter_rest}
use Rattle.nl_backups.specs.Pruning.{counted}
use Rattle.nl_backups.proofs.pruning.candidates.Given as goal

abbrev pub invariant-loop-row : goal.invariant-loop-row
invariant-loop-row l =
    l.all.items
    ++ counted l.pins.lines (zip (iter_rest (zip_first l.row-iterator)) (iter_rest (zip_second l.row-iterator)))
    ≡ counted l.fn.pins.lines (zip l.fn.rows l.fn.periods)
