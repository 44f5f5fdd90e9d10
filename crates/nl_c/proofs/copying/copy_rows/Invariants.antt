use Rattle.std.proofs.Common.{◌≡◌, ◌++◌, drop, map, take}
use Rattle.nl_c.specs.Copying.{row_told}
use Rattle.nl_c.proofs.copying.copy_rows.Given as goal

abbrev pub invariant-loop-index : goal.invariant-loop-index
invariant-loop-index l = l.into ≡ take l.index (map row_told l.rows) ++ drop l.index l.fn.into
