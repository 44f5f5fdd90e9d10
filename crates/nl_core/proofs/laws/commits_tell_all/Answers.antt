use Rattle.nl_commit.specs.Notes.{allowed_where}
use Rattle.nl_events.specs.Facts.Telling.{commits_tell_all}
use Rattle.nl_core.proofs.laws.commits_tell_all.Goals as goal

pub returns : goal.returns
returns c = λ told. commits_tell_all (allowed_where told)
