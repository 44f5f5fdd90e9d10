use Rattle.nl_core.proofs.Histories.{mounts_still_show}
use Rattle.nl_core.proofs.laws.mounts_still_show.Goals as goal

pub returns : goal.returns
returns c = mounts_still_show
