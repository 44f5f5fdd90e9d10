use Rattle.nl_publish.specs.Facts.KeptHoldings.{kept_holdings_stay, mounts_hold}
use Rattle.nl_publish.proofs.laws.kept_holdings_stay.Goals as goal

pub returns-clause-stay : goal.returns-clause-stay
returns-clause-stay c = kept_holdings_stay

pub returns-clause-mounts : goal.returns-clause-mounts
returns-clause-mounts c = mounts_hold
