use Rattle.nl_types.proofs.CheckpointSteps.{modes_are_set, removals_take_one, unmounts_take_one}
use Rattle.nl_types.proofs.laws.checkpoint_events_change_one.Goals as goal

pub returns-clause-modes : goal.returns-clause-modes
returns-clause-modes c = modes_are_set

pub returns-clause-removals : goal.returns-clause-removals
returns-clause-removals c = removals_take_one

pub returns-clause-unmounts : goal.returns-clause-unmounts
returns-clause-unmounts c = unmounts_take_one
