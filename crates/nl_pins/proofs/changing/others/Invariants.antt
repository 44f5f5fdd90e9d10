use Rattle.std.proofs.Common.{◌≡◌, ◌++◌}
use Rattle.std.specs.Vec.Iter.{into_iter_items}
use Rattle.nl_pins.specs.Pins.{others}
use Rattle.nl_pins.proofs.changing.others.Given as goal

abbrev pub invariant-loop-line : goal.invariant-loop-line
invariant-loop-line l =
    l.rest ++ others l.rows l.number (into_iter_items l.line-iterator) ≡ others l.rows l.number l.fn.lines
