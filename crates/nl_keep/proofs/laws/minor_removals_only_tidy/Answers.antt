use Rattle.nl_keep.proofs.Tidied.{minor_removals_only_tidy}
use Rattle.nl_keep.proofs.laws.minor_removals_only_tidy.Goals as goal

pub returns : goal.returns
returns c = minor_removals_only_tidy
