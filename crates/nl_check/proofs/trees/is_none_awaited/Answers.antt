use Rattle.std.proofs.Common.{arith, inl, inr, refl}
use Rattle.std.proofs.lemmas.Bool.{cases_lt}
use Rattle.nl_check.proofs.NamesFollowed.{none-past}
use Rattle.nl_check.proofs.trees.is_none_awaited.Goals as goal

pub returns : goal.returns
returns c = (
  λ t i. elim (cases_lt i c.loop-number.number) [
    | inl low ↦ c.loop-number.invariant i low
    | inr high ↦ none-past c.args.awaited.now i (omega (arith, high, c.loop-number-test.false))
  ],
  λ h. refl,
)
