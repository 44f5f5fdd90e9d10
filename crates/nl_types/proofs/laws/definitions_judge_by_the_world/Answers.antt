use Rattle.nl_types.specs.Facts.WorldJudgements.{steps_judge}
use Rattle.nl_types.proofs.laws.definitions_judge_by_the_world.Goals as goal

pub returns : goal.returns
returns c = steps_judge
