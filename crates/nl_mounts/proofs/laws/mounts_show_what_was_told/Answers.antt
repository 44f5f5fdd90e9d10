use Rattle.nl_mounts.proofs.ToldCopies.{mounts_show}
use Rattle.nl_mounts.proofs.laws.mounts_show_what_was_told.Goals as goal

pub returns : goal.returns
returns c =
    mounts_show c.published_worlds_are_shown.ensures c.kept_trees_stay.ensures c.histories_show_states.ensures
