use Rattle.std.proofs.Common.{ap, ◌≡◌, false, inr, refl, sym, true}
use Rattle.nl_check.specs.ImageConditions.{number_of}
use Rattle.nl_check.specs.declared.conditions.ImageCondition.TheVariants as condition
use Rattle.nl_types.specs.declared.error.VolError.TheVariants.{BadImage}
use Rattle.nl_image.specs.Facts.ReadParts.{has-logs, own-fails, own-same}
use Rattle.nl_image.proofs.logs.read_logs.Goals as goal

pub returns-then-have_own-clause-meets : goal.returns-then-have_own-clause-meets
returns-then-have_own-clause-meets c =
    has-logs c.args.sections.now c.args.tables.now c.requires.sectioned c.requires.tables c.requires.numbered
    c.in_ok-logs.logs c.in_ok-logs.ensures.found
    (own-same c.as_slice.result.now c.args.tables.now.numbers c.as_slice-2.result.now
    c.in_ok-logs.logs.payload c.as_slice.ensures c.as_slice-2.ensures
    (c.if-have_own.ensures.0 refl))

pub returns-else-have_own-clause-refused : goal.returns-else-have_own-clause-refused
returns-else-have_own-clause-refused c = inr (
  number_of condition.Logs,
  ap BadImage c.number.ensures,
  own-fails c.args.sections.now c.args.tables.now c.requires.sectioned c.requires.tables c.requires.numbered
      c.in_ok-logs.logs c.in_ok-logs.ensures.found c.summaries_are_one.ensures.one
      (λ own. let lie : false ≡ true = c.if-have_own.ensures.1
      (own-same c.args.tables.now.numbers c.as_slice.result.now c.in_ok-logs.logs.payload
      c.as_slice-2.result.now
      (sym c.as_slice.ensures) (sym c.as_slice-2.ensures) own) in
      cc),
)
