use Rattle.std.proofs.Common.{◌∷◌, None, Some, refl, sym, ◌∙◌}
use Rattle.std.proofs.lemmas.Bool.Decides.{Decides-eqb}
use Rattle.std.proofs.lemmas.Slice.Eq.{strip_prefix_is}
use Rattle.nl_tree.proofs.AbovePaths.{above_by_rest, above_no_slash, first_is_slash}
use Rattle.nl_tree.proofs.paths.is_above.Goals as goal

pub returns-in-Some : goal.returns-in-Some
returns-in-Some c =
    let names = c.args.names.now in
    let top = c.args.top.now in
    c.eq.ensures ∙ first_is_slash c.first.result _ c.in-Some.rest.now refl c.first.ensures.value
    ∙ sym (above_by_rest top names c.in-Some.rest.now
    (strip_prefix_is Decides-eqb names top (Some c.in-Some.rest) c.in-Some.ensures.cases))

pub returns-in-None : goal.returns-in-None
returns-in-None c =
    let names = c.args.names.now in
    let top = c.args.top.now in
    sym (above_no_slash top names
    (λ rest. strip_prefix_is Decides-eqb names top None c.in-None.ensures.cases (47 ∷ rest)))
