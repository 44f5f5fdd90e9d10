use Rattle.std.proofs.Common.{◌≡◌, ◌++◌, drop}
use Rattle.nl_words.specs.Going.{going, going_from, stay_of}
use Rattle.nl_words.proofs.forgetting.going.Given as goal

abbrev pub invariant-loop-row : goal.invariant-loop-row
invariant-loop-row l =
    l.gone.items ++ going_from l.fn.ranges (stay_of l.fn.rows) l.is_in_run (drop l.row-index l.fn.rows)
    ≡ going l.fn.ranges l.fn.rows
