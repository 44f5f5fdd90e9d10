use Rattle.std.proofs.Common.{◌∙◌, sym, ap, rules, tests}
use Rattle.std.specs.Option.{option_map}
use Rattle.std.proofs.lemmas.Iterator.{YieldsList-from_slice}
use Rattle.std.proofs.lemmas.Iterator.Search.{find_from_yields_List}
use Rattle.nl_cpfile.specs.declared.checkpoint.Checkpoint.{Checkpoint}
use Rattle.nl_protect.specs.Keeping.{is_plain}
use Rattle.nl_protect.proofs.protection.first_plain.Goals as goal

pub returns : goal.returns
returns c =
    let found =
    find_from_yields_List is_plain _ _ c.find.result c.find.ensures.ran
    (YieldsList-from_slice _ c.iter.ensures.rest) (λ x b q k. search (rules, tests)) in
    ap (option_map (λ (x : Checkpoint). x.number))
    (ap (option_map (λ b. b.now)) (sym c.in_ok-first.was) ∙ found)

pub returns-in_err-first : goal.returns-in_err-first
returns-in_err-first c =
    let found =
    find_from_yields_List is_plain _ _ c.find.result c.find.ensures.ran
    (YieldsList-from_slice _ c.iter.ensures.rest) (λ x b q k. search (rules, tests)) in
    c.from_residual.ensures
    ∙ ap (option_map (λ (x : Checkpoint). x.number))
    (ap (option_map (λ b. b.now)) (sym c.in_err-first.was) ∙ found)
