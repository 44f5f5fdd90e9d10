use Rattle.std.proofs.Common.{◌≡◌, [], ◌++◌, drop, take}
use Rattle.nl_words.specs.Coming.{chosen, is_missing}
use Rattle.nl_words.proofs.copying.missing_of.Given as goal

abbrev pub invariant-loop-place : goal.invariant-loop-place
invariant-loop-place l =
    l.all.items ++ chosen (is_missing l.fn.latest l.fn.others) (take l.place l.fn.rows) (drop l.place l.fn.rows)
    ≡ chosen (is_missing l.fn.latest l.fn.others) [] l.fn.rows
