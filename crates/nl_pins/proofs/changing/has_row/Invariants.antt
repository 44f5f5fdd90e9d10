use Rattle.std.proofs.Common.{◌≡◌, drop}
use Rattle.nl_pins.specs.Pins.{has_row}
use Rattle.nl_pins.proofs.changing.has_row.Given as goal

abbrev pub invariant-loop-row : goal.invariant-loop-row
invariant-loop-row l = has_row l.rows l.number ≡ has_row (drop l.row-index l.rows) l.number
