use Rattle.std.proofs.Common.{◌≡◌, ◌++◌, not}
use Rattle.std.specs.List.{filter}
use Rattle.std.specs.Vec.Iter.{into_iter_items}
use Rattle.nl_pins.specs.Pins.{is_before}
use Rattle.nl_pins.proofs.changing.with_line.Given as goal

abbrev pub invariant-loop-other : goal.invariant-loop-other
invariant-loop-other l = record {
  before :
      l.before ++ filter (is_before l.line) (into_iter_items l.other-iterator)
      ≡ filter (is_before l.line) l.fn.lines;
  behind :
      l.behind ++ filter (λ x. not (is_before l.line x)) (into_iter_items l.other-iterator)
      ≡ filter (λ x. not (is_before l.line x)) l.fn.lines;
}
