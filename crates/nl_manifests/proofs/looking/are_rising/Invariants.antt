use Rattle.std.proofs.Common.{◌≡◌, ◌-◌, drop}
use Rattle.nl_manifests.specs.Private.Looking.{rising}
use Rattle.nl_manifests.proofs.looking.are_rising.Given as goal

abbrev pub invariant-loop-at : goal.invariant-loop-at
invariant-loop-at g l = rising l.entries ≡ rising (drop (l.at - 1) l.entries)
