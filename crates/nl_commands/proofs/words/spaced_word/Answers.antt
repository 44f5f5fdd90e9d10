use Rattle.std.proofs.Common.{arith, ◌≢◌, ◌<◌, ℕ, length, get_or, sym, refl, subst}
use Rattle.std.proofs.lemmas.Str.Pattern.{contains_char}
use Rattle.nl_commands.specs.Splitting.{IsPlainWord}
use Rattle.nl_commands.proofs.WordParts.{spaced_result}
use Rattle.nl_commands.proofs.words.spaced_word.Goals as goal

pub returns : goal.returns
returns c =
    let word = c.unwrap_or-parts.result.0.now in
    let tabs = contains_char 9 word c.contains.result c.contains.ensures.cases (omega arith) in
    let none : (i : ℕ) → i < length word → get_or word i 0 ≢ 9 = λ i l e.
    cc (tabs.1 i l e, c.if-contains.false) in
    subst (λ p.
    ((i : ℕ) → i < length p.0.now → get_or p.0.now i 0 ≢ 9) → IsPlainWord c.args.text.now p.0.now p.1.now)
    (sym c.unwrap_or-parts.ensures)
    (spaced_result c.args.text.now c.split_once.result _ _ refl refl c.split_once.ensures.cases) none
