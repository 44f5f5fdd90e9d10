use Rattle.std.proofs.Common.{rules, tests, sym, ◌∙◌}
use Rattle.std.proofs.lemmas.Iterator.{YieldsList-from_slice}
use Rattle.std.proofs.lemmas.Iterator.Search.{position_from_yields_List}
use Rattle.nl_protect.specs.Configuration.{is_comment}
use Rattle.nl_protect.proofs.Comments.{there, none_there}
use Rattle.nl_protect.proofs.words.before_comment.Goals as goal

pub returns-in-Some : goal.returns-in-Some
returns-in-Some c =
    there c.args.line.now c.in-Some.at
    (sym c.in-Some.is
    ∙ position_from_yields_List is_comment _ _ _ c.position.ensures.ran
    (YieldsList-from_slice _ c.iter.ensures.rest) (λ x b q k. search (rules, tests)))

pub returns-in-None : goal.returns-in-None
returns-in-None c =
    none_there c.args.line.now
    (sym c.in-None.is
    ∙ position_from_yields_List is_comment _ _ _ c.position.ensures.ran
    (YieldsList-from_slice _ c.iter.ensures.rest) (λ x b q k. search (rules, tests)))
