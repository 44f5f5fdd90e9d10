use Rattle.nl_keep_pen.proofs.Brought.{arrivals_are_kept}
use Rattle.nl_keep_pen.proofs.laws.arrivals_are_kept.Goals as goal

pub returns : goal.returns
returns c = arrivals_are_kept c.stores_keep_copies.ensures
