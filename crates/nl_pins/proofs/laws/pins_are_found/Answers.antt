use Rattle.nl_pins.proofs.Beside.{pins_found}
use Rattle.nl_pins.proofs.laws.pins_are_found.Goals as goal

pub returns : goal.returns
returns c = pins_found
