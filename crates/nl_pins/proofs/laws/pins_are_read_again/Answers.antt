use Rattle.nl_pins.proofs.ReadAgain.{pins_stay, read_again, read_printable}
use Rattle.nl_pins.proofs.laws.pins_are_read_again.Goals as goal

pub returns : goal.returns
returns c = record {
  again = read_again c.manifests_are_printed.ensures;
  read = read_printable c.manifests_are_printed.ensures;
  stay = pins_stay;
}
