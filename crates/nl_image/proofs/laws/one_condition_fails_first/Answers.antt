use Rattle.nl_image.specs.Facts.ConditionOrder.{images_have_no_fault, one_fails_first}
use Rattle.nl_image.proofs.laws.one_condition_fails_first.Goals as goal

pub returns-clause-none : goal.returns-clause-none
returns-clause-none c = images_have_no_fault

pub returns-clause-one : goal.returns-clause-one
returns-clause-one c = one_fails_first
