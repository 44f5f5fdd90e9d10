use Rattle.std.proofs.Common.{◌≡◌, ◌-◌, drop}
use Rattle.nl_folders.specs.Differences.{rising}
use Rattle.nl_folders.proofs.trees.is_in_order.Given as goal

abbrev pub invariant-loop-at : goal.invariant-loop-at
invariant-loop-at l = rising l.entries ≡ rising (drop (l.at - 1) l.entries)
