use Rattle.std.proofs.Common.{rules}
use Rattle.nl_pins.proofs.Names.{no_number}
use Rattle.nl_pins.proofs.pins.number_of.Goals as goal

pub returns-in-Err : goal.returns-in-Err
returns-in-Err c = no_number c.args.line.now.name (search rules)
