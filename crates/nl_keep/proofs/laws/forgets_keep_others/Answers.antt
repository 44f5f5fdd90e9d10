use Rattle.nl_keep.proofs.Forgets.{forgets_alone, forgets_keep_others, forgotten_are_earlier, forgotten_are_gone}
use Rattle.nl_keep.proofs.laws.forgets_keep_others.Goals as goal

pub returns : goal.returns
returns c = record {
  alone = forgets_alone;
  gone = forgotten_are_gone;
  earlier = forgotten_are_earlier;
  others = forgets_keep_others;
}
