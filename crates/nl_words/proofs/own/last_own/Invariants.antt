use Rattle.std.proofs.Common.{◌≡◌, None, drop}
use Rattle.nl_words.specs.Own.{last_own}
use Rattle.nl_words.proofs.own.last_own.Given as goal

abbrev pub invariant-loop-row : goal.invariant-loop-row
invariant-loop-row l = last_own l.last (drop l.row-index l.rows) ≡ last_own None l.rows
