use Rattle.std.proofs.Common.{◌≡◌, drop}
use Rattle.nl_words.specs.Ranges.{names_any}
use Rattle.nl_words.proofs.ranges.names_any.Given as goal

abbrev pub invariant-loop-row : goal.invariant-loop-row
invariant-loop-row l = names_any l.fn.range l.rows ≡ names_any l.fn.range (drop l.row-index l.rows)
