use Rattle.nl_shown.proofs.Roots.{roots_have_all}
use Rattle.nl_shown.proofs.laws.roots_have_all.Goals as goal

pub returns : goal.returns
returns c = roots_have_all
