use Rattle.nl_types.proofs.CheckpointSteps.{ranges_take_removable, ranges_answer_removable, ranges_are_removals}
use Rattle.nl_types.proofs.laws.ranges_are_removals.Goals as goal

pub returns-clause-taken : goal.returns-clause-taken
returns-clause-taken c = ranges_take_removable

pub returns-clause-answered : goal.returns-clause-answered
returns-clause-answered c = ranges_answer_removable

pub returns-clause-each : goal.returns-clause-each
returns-clause-each c = ranges_are_removals
