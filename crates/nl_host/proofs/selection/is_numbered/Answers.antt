use Rattle.std.proofs.Common.{◌≡◌, false, ap, drop, length, not, sym, ◌∙◌}
use Rattle.std.specs.Prelude.{◌&&◌}
use Rattle.std.specs.Str.{all_ascii_digits}
use Rattle.nl_host.specs.Patterns.{is_nothing}
use Rattle.nl_host.proofs.Words.{nothing_is}
use Rattle.nl_host.proofs.selection.is_numbered.Goals as goal

pub returns-then-not-is_empty : goal.returns-then-not-is_empty
returns-then-not-is_empty c =
    let number = c.in-Some.number.now in
    let rest = drop (length c.args.word.now) c.args.text.now in
    let found = c.in-Some.ensures.cases in
    let some : is_nothing rest ≡ false =
    ap is_nothing (sym found.1) ∙ nothing_is number ∙ sym c.is_empty.ensures ∙ c.if-not-is_empty.true in
    c.are_digits.ensures ∙ ap all_ascii_digits found.1
    ∙ sym (ap (λ b. (b && not (is_nothing rest)) && all_ascii_digits rest) found.0
    ∙ ap (λ b. not b && all_ascii_digits rest) some)
