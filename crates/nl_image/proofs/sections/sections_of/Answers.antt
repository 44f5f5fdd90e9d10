use Rattle.std.proofs.Common.{ap}
use Rattle.std.proofs.lemmas.Result.{err_from_is_err_and}
use Rattle.nl_check.specs.ImageConditions.{number_of}
use Rattle.nl_check.specs.declared.conditions.ImageCondition.TheVariants as condition
use Rattle.nl_types.specs.declared.error.VolError.TheVariants.{BadImage}
use Rattle.nl_image.proofs.FirstConditions.{other-length}
use Rattle.nl_image.proofs.sections.sections_of.Goals as goal

pub returns-in-None-clause-refused : goal.returns-in-None-clause-refused
returns-in-None-clause-refused c = (
  number_of condition.Length,
  ap BadImage c.number.ensures,
  other-length c.args.image.now c.in_ok-division.division.superblock c.in_ok-division.ensures.begins
      c.in-None.ensures.none,
)

pub returns-in_err-division-clause-refused : goal.returns-in_err-division-clause-refused
returns-in_err-division-clause-refused c =
    let p = err_from_is_err_and c.from_residual.result c.from_residual.ensures.1 in
    let fails = c.in_err-division.ensures.refused in
    rw (p.1, p.2) (fails.0, fails.2, fails.3)
