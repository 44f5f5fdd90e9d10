use Rattle.nl_keep.proofs.Tidied.{tidying_goes_on}
use Rattle.nl_keep.proofs.laws.tidying_goes_on.Goals as goal

pub returns : goal.returns
returns c = tidying_goes_on
