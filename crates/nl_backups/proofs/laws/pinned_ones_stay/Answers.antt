use Rattle.nl_backups.proofs.Candidates.{pinned_stay}
use Rattle.nl_backups.proofs.laws.pinned_ones_stay.Goals as goal

pub returns : goal.returns
returns c = pinned_stay
