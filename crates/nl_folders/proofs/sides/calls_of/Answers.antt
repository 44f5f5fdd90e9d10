use Rattle.std.proofs.Common.{◌<◌, List, length, get_or, sym, subst}
use Rattle.nl_types.specs.Plain.Trees.{Tree}
use Rattle.nl_folders.proofs.Choosing.{placed_at}
use Rattle.nl_folders.specs.declared.sides.Step.{Step}
use Rattle.nl_folders.specs.declared.sides.Step.TheVariants.{Make}
use Rattle.nl_folders.specs.Private.Sides.{IsPlaced}
use Rattle.nl_folders.proofs.sides.calls_of.Goals as goal

pub call_of-requires : goal.call_of-requires
call_of-requires c =
    let s = c.args.sides.now in
    let k = c.loop-step.step-index in
    let within : k < length s.steps =
    subst (λ (steps : List Step). k < length steps) c.steps-step-items.ensures c.loop-step-test.true in
    subst (λ (steps : List Step). IsPlaced c.present-present.result.now c.wanted-wanted.result.now
    (get_or steps k (Make 0))) (sym c.steps-step-items.ensures)
    (subst (λ (present : Tree). IsPlaced present c.wanted-wanted.result.now (get_or s.steps k (Make 0)))
    (sym c.present-present.ensures.value)
    (subst (λ (wanted : Tree). IsPlaced s.present wanted (get_or s.steps k (Make 0)))
    (sym c.wanted-wanted.ensures.value)
    (placed_at s.present s.wanted s.steps k (Make 0) within c.present-present.ensures.told.placed)))
