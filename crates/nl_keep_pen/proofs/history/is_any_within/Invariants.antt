use Rattle.std.proofs.Common.{◌≡◌, drop}
use Rattle.nl_keep_pen.specs.History.{any_within}
use Rattle.nl_keep_pen.proofs.history.is_any_within.Given as goal

abbrev pub invariant-loop-difference : goal.invariant-loop-difference
invariant-loop-difference l = any_within l.top l.all ≡ any_within l.top (drop l.difference-index l.all)
