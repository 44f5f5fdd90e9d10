use Rattle.std.proofs.Common.{◌≡◌, false, replicate}
use Rattle.nl_folders.proofs.sides.unset.Given as goal

abbrev pub invariant-loop : goal.invariant-loop
invariant-loop l = l.flags ≡ replicate l.counter false
