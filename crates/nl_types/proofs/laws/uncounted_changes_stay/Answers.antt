use Rattle.nl_types.specs.Facts.ChangeLaws.{uncounted_changes_stay}
use Rattle.nl_types.proofs.Spellings.{renames_of_two_paths_count}
use Rattle.nl_types.proofs.laws.uncounted_changes_stay.Goals as goal

pub returns-clause-stay : goal.returns-clause-stay
returns-clause-stay c = uncounted_changes_stay

pub returns-clause-renames : goal.returns-clause-renames
returns-clause-renames c = renames_of_two_paths_count
