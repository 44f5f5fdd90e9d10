use Rattle.nl_folders.proofs.Emptied.{pass_over}
use Rattle.nl_folders.proofs.laws.differences_pass_over.Goals as goal

pub returns : goal.returns
returns c = pass_over
