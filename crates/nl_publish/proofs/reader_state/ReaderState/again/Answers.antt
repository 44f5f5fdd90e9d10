use Rattle.std.proofs.Common.{ap, ◌∙◌, subst}
use Rattle.nl_commit.specs.Commits.{shown_after}
use Rattle.nl_commit.specs.Shown.{MountsRise}
use Rattle.nl_publish.proofs.reader_state.ReaderState.again.Goals as goal

pub first-requires-clause-mounts : goal.first-requires-clause-mounts
first-requires-clause-mounts c =
    subst MountsRise (c.requires.whole.shown ∙ ap shown_after c.requires.first) c.mounts_rise.ensures
