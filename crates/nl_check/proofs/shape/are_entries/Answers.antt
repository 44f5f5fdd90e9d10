use Rattle.std.proofs.Common.{refl, arith}
use Rattle.nl_check.specs.Private.InodeBlocks.{IsSpelled}
use Rattle.nl_check.specs.Facts.Below.{below-more, none-by_none, some-by_none}
use Rattle.nl_check.proofs.InodeBlocks.{not-spelled, read-spelled}
use Rattle.nl_check.proofs.shape.are_entries.Goals as goal

pub returns-then-is_none : goal.returns-then-is_none
returns-then-is_none c = (
  λ t. cc,
  λ each. absurd (not-spelled c.args.page.now c.loop-place.place c.entry_in.result c.entry_in.ensures
      (none-by_none c.entry_in.result c.is_none.result c.is_none.ensures c.if-is_none.true)
      (each c.loop-place.place c.loop-place-test.true)),
)

pub loop-place-preserved : goal.loop-place-preserved
loop-place-preserved c =
    let e = some-by_none c.entry_in.result c.is_none.result c.is_none.ensures c.if-is_none.false in
    below-more (IsSpelled c.args.page.now) c.loop-place.place c.loop-place.invariant
    (read-spelled c.args.page.now c.loop-place.place c.entry_in.result e.0 c.entry_in.ensures e.1)

pub returns : goal.returns
returns c =
    (λ t place low. c.loop-place.invariant place (omega (arith, low, c.loop-place-test.false)), λ each. refl)
