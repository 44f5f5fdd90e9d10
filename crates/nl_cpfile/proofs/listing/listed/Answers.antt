use Rattle.std.proofs.Common.{◌∙◌}
use Rattle.std.proofs.lemmas.Result.{IfOk-weaker}
use Rattle.nl_cpfile.proofs.Listings.{shown-ascending, shown-descending}
use Rattle.nl_cpfile.proofs.listing.listed.Goals as goal

pub returns-then-options : goal.returns-then-options
returns-then-options c =
    let shown =
    shown-descending c.args.options.now c.args.earlier.now c.args.latest.now c.most_of-most.result
    c.most_of-most.ensures c.if-options.true in
    IfOk-weaker c.descending.result _ _ (λ listed is. is ∙ shown) c.descending.ensures

pub returns-else-options : goal.returns-else-options
returns-else-options c =
    let shown =
    shown-ascending c.args.options.now c.args.earlier.now c.args.latest.now c.most_of-most.result
    c.most_of-most.ensures c.if-options.false in
    IfOk-weaker c.ascending.result _ _ (λ listed is. is ∙ shown) c.ascending.ensures
