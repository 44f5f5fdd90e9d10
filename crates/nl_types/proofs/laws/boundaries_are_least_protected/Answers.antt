use Rattle.nl_types.specs.Facts.Expiries.{boundaries_are_least_protected}
use Rattle.nl_types.proofs.laws.boundaries_are_least_protected.Goals as goal

pub returns : goal.returns
returns c = boundaries_are_least_protected
