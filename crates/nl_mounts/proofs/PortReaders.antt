-- Ports as readers of many files.
use Rattle.std.proofs.Common.{List, [], ◌∷◌}
use Rattle.nl_publish.specs.Histories.{Known}
use Rattle.nl_publish.specs.Jobs.{AreLaterReaders}
use Rattle.nl_mounts.specs.Ports.{AreLater, PortView, seeing}

abbrev known_of : PortView → Known
known_of p = p.known

pub ports_later : (old new : List PortView) → AreLaterReaders known_of seeing old new → AreLater old new
ports_later [] [] later = later
ports_later (p ∷ old) (q ∷ new) later =
    (record { later = later.0.later; kept = later.0.kept }, ports_later old new later.1)
ports_later [] (q ∷ new) later = absurd later
ports_later (p ∷ old) [] later = absurd later
