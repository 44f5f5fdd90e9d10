use Rattle.std.proofs.Common.{refl, subst}
use Rattle.std.specs.List.{All}
use Rattle.std.proofs.lemmas.List.{take_all}
use Rattle.std.proofs.lemmas.List.Elements.{All-more}
use Rattle.nl_check.specs.Private.Turns.{IsOfPeriod}
use Rattle.nl_check.proofs.periods.are_these_of_periods.Goals as goal

pub loop-name-preserved : goal.loop-name-preserved
loop-name-preserved g c =
    let Is = IsOfPeriod (g.V.VRead.periods c.args.store.now) c.args.number c.args.met.now in
    All-more Is c.args.names.now c.loop-name.name-index c.name-item.result c.loop-name-test.true
    c.loop-name.invariant (subst Is c.name-item.is (c.is_of_period.ensures.0 c.if-not-is_of_period.false))

pub returns : goal.returns
returns g c = (
  λ _. subst (All (IsOfPeriod (g.V.VRead.periods c.args.store.now) c.args.number c.args.met.now))
      (take_all c.loop-name.name-index c.args.names.now c.loop-name-test.false) c.loop-name.invariant,
  λ _. refl,
)
