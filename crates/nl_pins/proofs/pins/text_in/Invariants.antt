use Rattle.std.proofs.Common.{◌≡◌, drop}
use Rattle.nl_pins.specs.Pins.{text_in}
use Rattle.nl_pins.proofs.pins.text_in.Given as goal

abbrev pub invariant-loop-line : goal.invariant-loop-line
invariant-loop-line l = text_in l.lines l.number ≡ text_in (drop l.line-index l.lines) l.number
