use Rattle.nl_keep.proofs.Tidied.{events_only_tidy}
use Rattle.nl_keep.proofs.laws.tidying_events_only_tidy.Goals as goal

pub returns : goal.returns
returns c = events_only_tidy
