use Rattle.std.proofs.Common.{ap, ◌≡◌, Bool, true, false, arith, sym}
use Rattle.std.proofs.lemmas.Bool.{false≢true}
use Rattle.std.proofs.lemmas.List.{length-take-le}
use Rattle.nl_check.specs.ImageConditions.{number_of}
use Rattle.nl_check.specs.declared.conditions.ImageCondition.TheVariants as condition
use Rattle.nl_types.specs.declared.error.VolError.TheVariants.{BadImage}
use Rattle.nl_image.proofs.FirstConditions.{no-mark, not-divided}
use Rattle.nl_image.proofs.geometry.division_of.Goals as goal

pub returns-then-not-has_mark-clause-refused : goal.returns-then-not-has_mark-clause-refused
returns-then-not-has_mark-clause-refused c = (
  number_of condition.Mark,
  omega arith,
  ap BadImage c.number.ensures,
  no-mark c.args.bytes.now
      (λ mark. both c.has_mark.result (c.has_mark.ensures.1 mark) c.if-not-has_mark.true),
)
  where
    both : (b : Bool) → b ≡ true → b ≡ false → ⊥
    both b p q = cc

pub slice_bounds-divided-end : goal.slice_bounds-divided-end
slice_bounds-divided-end c =
    sym (length-take-le 1024 c.args.bytes.now (c.has_mark.ensures.0 c.if-not-has_mark.false).long)

pub returns-in-None-clause-refused : goal.returns-in-None-clause-refused
returns-in-None-clause-refused c = (
  number_of condition.Division,
  omega arith,
  ap BadImage c.number-in-None.ensures,
  not-divided c.args.bytes.now (c.has_mark.ensures.0 c.if-not-has_mark.false)
      (λ s is. false≢true (c.in-None.ensures.some s is)),
)
