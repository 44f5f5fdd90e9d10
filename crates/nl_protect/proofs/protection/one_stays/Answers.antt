use Rattle.std.proofs.Common.{◌∙◌, rules, tests}
use Rattle.std.proofs.lemmas.Iterator.Adapters.{YieldsList-from_rev_slice}
use Rattle.std.proofs.lemmas.Iterator.Search.{any_from_yields_List}
use Rattle.nl_protect.specs.Keeping.{is_staying}
use Rattle.nl_protect.proofs.Kept.{any-reverse}
use Rattle.nl_protect.proofs.protection.one_stays.Goals as goal

pub returns : goal.returns
returns c =
    any_from_yields_List (is_staying c.args.below) _ _ c.any.result c.any.ensures.ran
    (YieldsList-from_rev_slice c.args.kept.now (cc)) (λ x b q k. search (rules, tests))
    ∙ any-reverse (is_staying c.args.below) c.args.kept.now
