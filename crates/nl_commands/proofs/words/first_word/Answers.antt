-- proofs/words/first_word/Answers.antt
use Rattle.std.proofs.Common.{arith, ◌≡◌, ◌∷◌, Some, None, inr}
use Rattle.std.proofs.lemmas.Str.Pattern.{strip_prefix_char}
use Rattle.nl_commands.proofs.WordParts.{quoted_result, begins_otherwise}
use Rattle.nl_commands.proofs.words.first_word.Goals as goal

pub returns-in-Some : goal.returns-in-Some
returns-in-Some c =
    let begins : c.args.text.now ≡ 34 ∷ c.in-Some.quoted.now =
    strip_prefix_char 34 c.args.text.now (Some c.in-Some.quoted) c.in-Some.ensures.cases (omega arith) in
    quoted_result c.args.text.now c.in-Some.quoted.now c.split_once.result begins c.split_once.ensures.cases

pub returns-in-None : goal.returns-in-None
returns-in-None c =
    inr (
      begins_otherwise c.args.text.now
          (strip_prefix_char 34 c.args.text.now None c.in-None.ensures.cases (omega arith)),
      c.plain_word.ensures,
    )
