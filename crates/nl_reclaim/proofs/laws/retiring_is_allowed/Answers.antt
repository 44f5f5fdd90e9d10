use Rattle.nl_reclaim.specs.Facts.Reclaims.{retiring-is-allowed}
use Rattle.nl_reclaim.proofs.laws.retiring_is_allowed.Goals as goal

pub returns : goal.returns
returns c = retiring-is-allowed
