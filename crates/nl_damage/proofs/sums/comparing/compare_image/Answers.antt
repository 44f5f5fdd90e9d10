use Rattle.std.proofs.lemmas.Result.{IfOk-weaker}
use Rattle.nl_damage.proofs.SumsBeside.{exact_beside, none_differ, other_save, this_sum}
use Rattle.nl_damage.proofs.sums.comparing.compare_image.Goals as goal

pub returns-in-Some-clause-beside : goal.returns-in-Some-clause-beside
returns-in-Some-clause-beside c =
    IfOk-weaker c.compare.result _ _
    (λ told is.
    this_sum c.args.image.now c.args.saved.now c.in-Some.present c.in_ok-present.field-0 told c.in-Some.is
    c.in_ok-present.ensures.found is)
    c.compare.ensures

pub returns-in-Some-clause-exact : goal.returns-in-Some-clause-exact
returns-in-Some-clause-exact c =
    IfOk-weaker c.compare.result _ _
    (λ told is.
    exact_beside c.args.image.now c.args.saved.now c.in-Some.present c.in_ok-present.field-0 told c.in-Some.is
    c.in_ok-present.ensures.found c.in_ok-present.ensures.only is)
    c.compare.ensures

pub returns-in-None-clause-beside : goal.returns-in-None-clause-beside
returns-in-None-clause-beside c =
    other_save c.args.image.now c.args.saved.now c.in_ok-present.field-0 c.in-None.is
    c.in_ok-present.ensures.only

pub returns-in-None-clause-exact : goal.returns-in-None-clause-exact
returns-in-None-clause-exact c =
    none_differ c.args.image.now c.args.saved.now c.in_ok-present.field-0 c.in-None.is
    c.in_ok-present.ensures.only
