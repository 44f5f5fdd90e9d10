use Rattle.nl_words.proofs.Evening.{each_comes_or_is_missing}
use Rattle.nl_words.proofs.laws.each_comes_or_is_missing.Goals as goal

pub returns : goal.returns
returns c = each_comes_or_is_missing
