use Rattle.std.proofs.Common.{◌≡◌, drop}
use Rattle.nl_keep.specs.Forgotten.{last_minor, rows_behind, run_end}
use Rattle.nl_keep.proofs.forgetting.run_end.Given as goal

abbrev pub invariant-loop-row : goal.invariant-loop-row
invariant-loop-row l =
    last_minor l.last (rows_behind l.number (drop l.row-index l.rows)) ≡ run_end l.number l.rows
