use Rattle.std.proofs.Common.{◌∙◌, sym, ap, rules, tests}
use Rattle.std.specs.Option.{option_map}
use Rattle.std.proofs.lemmas.Iterator.{YieldsList-from_slice}
use Rattle.std.proofs.lemmas.Iterator.Search.{find_from_yields_List}
use Rattle.nl_cpfile.specs.declared.checkpoint.Checkpoint.{Checkpoint}
use Rattle.nl_protect.specs.Keeping.{is_staying}
use Rattle.nl_protect.proofs.protection.first_staying_of.Goals as goal

pub returns : goal.returns
returns c =
    let found =
    find_from_yields_List (is_staying c.args.below) _ _ c.find.result c.find.ensures.ran
    (YieldsList-from_slice _ c.iter.ensures.rest) (λ x b q k. search (rules, tests)) in
    ap (option_map (λ (x : Checkpoint). x.number))
    (ap (option_map (λ b. b.now)) (sym c.in_ok-staying.was) ∙ found)

pub returns-in_err-staying : goal.returns-in_err-staying
returns-in_err-staying c =
    let found =
    find_from_yields_List (is_staying c.args.below) _ _ c.find.result c.find.ensures.ran
    (YieldsList-from_slice _ c.iter.ensures.rest) (λ x b q k. search (rules, tests)) in
    c.from_residual.ensures
    ∙ ap (option_map (λ (x : Checkpoint). x.number))
    (ap (option_map (λ b. b.now)) (sym c.in_err-staying.was) ∙ found)
