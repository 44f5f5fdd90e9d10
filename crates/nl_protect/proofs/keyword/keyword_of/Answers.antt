use Rattle.std.proofs.Common.{◌∙◌, rules, tests}
use Rattle.std.specs.Str.{bytes_eq}
use Rattle.std.proofs.lemmas.Iterator.{YieldsList-from_slice}
use Rattle.std.proofs.lemmas.Iterator.Search.{find_from_yields_List}
use Rattle.nl_protect.specs.Configuration.{keyword_in, spelling}
use Rattle.nl_protect.proofs.keyword.keyword_of.Goals as goal

pub returns : goal.returns
unfolding keyword_in
returns c =
    c.copied.ensures
    ∙ find_from_yields_List (λ k. bytes_eq c.args.word.now (spelling k)) _ _ c.find.result c.find.ensures.ran
    (YieldsList-from_slice _ c.iter.ensures.rest) (λ x b q k. search (rules, tests))
