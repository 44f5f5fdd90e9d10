use Rattle.std.proofs.Common.{Option, sym, ap, ◌∙◌}
use Rattle.std.specs.Option.{option_map}
use Rattle.nl_pins.specs.declared.pins.Pins.{Pins}
use Rattle.nl_backups.proofs.OneWorld.{has_bad_pins, has_lines}
use Rattle.nl_backups.proofs.reading.pins_in.Goals as goal

pub returns-in-Some-clause-lines : goal.returns-in-Some-clause-lines
returns-in-Some-clause-lines c image of =
    has_lines c.in_ok-bytes.bytes c.in-Some.pins.lines image (c.in_ok-bytes.ensures.pins image of)
    (sym c.in_ok-pins.ensures
    ∙ ap (λ (o : Option Pins). option_map (λ (p : Pins). p.lines) o) c.in-Some.is)

pub returns-in-None-clause-refused : goal.returns-in-None-clause-refused
returns-in-None-clause-refused c image of =
    has_bad_pins c.in_ok-bytes.bytes image (c.in_ok-bytes.ensures.pins image of)
    (sym c.in_ok-pins.ensures
    ∙ ap (λ (o : Option Pins). option_map (λ (p : Pins). p.lines) o) c.in-None.is)
