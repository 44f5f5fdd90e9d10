use Rattle.std.proofs.Common.{◌≡◌, [], ◌++◌, drop, take}
use Rattle.nl_words.specs.Coming.{chosen, comes}
use Rattle.nl_words.proofs.copying.coming_of.Given as goal

abbrev pub invariant-loop-place : goal.invariant-loop-place
invariant-loop-place l =
    l.all.items ++ chosen (comes l.fn.latest l.fn.others) (take l.place l.fn.rows) (drop l.place l.fn.rows)
    ≡ chosen (comes l.fn.latest l.fn.others) [] l.fn.rows
