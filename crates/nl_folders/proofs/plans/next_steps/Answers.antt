use Rattle.std.proofs.Common.{◌<◌, length, ap, sym, ◌∙◌, arith}
use Rattle.std.proofs.lemmas.Bool.{eqb-false}
use Rattle.nl_types.specs.Plain.Trees.{Tree}
use Rattle.nl_folders.proofs.Handing.{steps_handed}
use Rattle.nl_folders.specs.declared.plans.Stage.TheVariants.{Clearing}
use Rattle.nl_folders.proofs.plans.next_steps.Goals as goal

pub returns : goal.returns
returns c =
    let s = c.args.sides.now in
    let some : 0 < length c.in_ok-calls.calls =
    omega (arith, eqb-false (length c.in_ok-calls.calls) 0 (sym c.is_empty.ensures ∙ c.if-is_empty.false)) in
    steps_handed s _ c.present-left.ensures.told c.in_ok-calls.ensures some
    (ap (λ (t : Tree). Clearing (length t)) c.present-left.ensures.value)
