use Rattle.nl_types.specs.Facts.CallLookups.{renames_move_subtree, renamed_is_below, renames_onto_themselves_stay}
use Rattle.nl_types.proofs.laws.renames_move_subtrees.Goals as goal

pub returns-clause-every : goal.returns-clause-every
returns-clause-every c = renames_move_subtree

pub returns-clause-below : goal.returns-clause-below
returns-clause-below c = renamed_is_below

pub returns-clause-same : goal.returns-clause-same
returns-clause-same c = renames_onto_themselves_stay
