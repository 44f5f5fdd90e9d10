use Rattle.std.proofs.Common.{◌≡◌, take}
use Rattle.nl_events.proofs.ShownStores.{all_shown}
use Rattle.nl_events.proofs.showing.shown_numbers.Given as goal

abbrev pub invariant-loop-number : goal.invariant-loop-number
invariant-loop-number g l = l.numbers.items ≡ take l.number (all_shown (g.V.Vstore.store l.store))
