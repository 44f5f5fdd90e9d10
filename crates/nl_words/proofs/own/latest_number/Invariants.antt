use Rattle.std.proofs.Common.{◌≡◌, None, drop}
use Rattle.nl_words.specs.Own.{last_number}
use Rattle.nl_words.proofs.own.latest_number.Given as goal

abbrev pub invariant-loop-row : goal.invariant-loop-row
invariant-loop-row l = last_number l.last (drop l.row-index l.rows) ≡ last_number None l.rows
