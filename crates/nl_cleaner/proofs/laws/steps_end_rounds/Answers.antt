use Rattle.nl_cleaner.specs.Facts.StepsLeft.{steps-end-rounds}
use Rattle.nl_cleaner.proofs.laws.steps_end_rounds.Goals as goal

pub returns : goal.returns
returns c = steps-end-rounds
