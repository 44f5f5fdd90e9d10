-- proofs/words/plain_word/Answers.antt
use Rattle.std.proofs.Common.{sym, refl, subst}
use Rattle.nl_commands.specs.Splitting.{IsPlainWord}
use Rattle.nl_commands.proofs.WordParts.{plain_result}
use Rattle.nl_commands.proofs.words.plain_word.Goals as goal

pub returns-in-None : goal.returns-in-None
returns-in-None c =
    subst (λ p. IsPlainWord c.args.text.now p.0.now p.1.now) (sym c.unwrap_or.ensures)
    (plain_result c.args.text.now c.split_once.result _ _ refl refl c.split_once.ensures.cases)
