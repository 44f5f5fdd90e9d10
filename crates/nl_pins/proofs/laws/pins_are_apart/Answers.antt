use Rattle.nl_pins.proofs.Beside.{pins_apart}
use Rattle.nl_pins.proofs.laws.pins_are_apart.Goals as goal

pub returns : goal.returns
returns c = pins_apart
