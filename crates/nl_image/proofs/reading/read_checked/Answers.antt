use Rattle.std.proofs.Common.{ap, ◌≡◌, false, inr, refl, true}
use Rattle.nl_check.specs.ImageConditions.{number_of}
use Rattle.nl_check.specs.declared.conditions.ImageCondition.TheVariants as condition
use Rattle.nl_types.specs.declared.error.VolError.TheVariants.{BadImage}
use Rattle.nl_image.specs.Reading.{parts_read}
use Rattle.nl_image.specs.Facts.LaterConditions.{meets-all, zeros-fail}
use Rattle.nl_image.specs.Facts.ReadParts.{are-zeros, has-zeros}
use Rattle.nl_image.proofs.reading.read_checked.Goals as goal

pub returns-then-has_zeros-clause-image : goal.returns-then-has_zeros-clause-image
returns-then-has_zeros-clause-image c =
    meets-all c.args.sections.now.image.now
    (parts_read c.args.sections.now c.args.tables.now) c.requires.tables c.in_ok-logs.ensures.meets
    c.in_ok-check_trees.ensures.holds
    (has-zeros c.args.sections.now c.args.tables.now c.requires.sectioned c.requires.tables
    (c.if-has_zeros.ensures.0 refl))

pub returns-else-has_zeros-clause-refused : goal.returns-else-has_zeros-clause-refused
returns-else-has_zeros-clause-refused c = inr (
  number_of condition.Zeros,
  ap BadImage c.number.ensures,
  zeros-fail c.args.sections.now.image.now
      (parts_read c.args.sections.now c.args.tables.now) c.requires.tables c.in_ok-logs.ensures.meets
      c.in_ok-check_trees.ensures.holds
      (λ zeros.
      let lie : false ≡ true =
      c.if-has_zeros.ensures.1
      (are-zeros c.args.sections.now c.args.tables.now c.requires.sectioned c.requires.tables
      zeros) in
      cc),
)
