use Rattle.nl_publish.proofs.Copies.{published_worlds_are_shown}
use Rattle.nl_publish.proofs.laws.published_worlds_are_shown.Goals as goal

pub returns : goal.returns
returns c = published_worlds_are_shown
