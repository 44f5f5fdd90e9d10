use Rattle.nl_folders.proofs.PartLaws.{parts_are_exact}
use Rattle.nl_folders.proofs.laws.parts_are_exact.Goals as goal

pub returns : goal.returns
returns c = parts_are_exact
