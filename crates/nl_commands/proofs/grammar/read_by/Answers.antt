use Rattle.std.proofs.Common.{rules, ◌≡◌, ◌≢◌, ◌∙◌, ap, sym, false, map, List, Ok, Err}
use Rattle.clap.proofs.WalkLemmas.{both}
use Rattle.clap.specs.Words.{App, Row, Text, app_of, found_of, kind_of, matches_of, rows_of}
use Rattle.nl_commands.specs.declared.error.LineError.TheVariants.{Memory}
use Rattle.nl_commands.specs.Grammars.{has_hyphen}
use Rattle.nl_commands.specs.Kinds.{line_error}
use Rattle.nl_commands.proofs.Parsing.{parsed-ok, error-is}
use Rattle.nl_commands.proofs.grammar.read_by.Goals as goal

pub returns-in_err-matches : goal.returns-in_err-matches
returns-in_err-matches c = λ free other.
    let words : List Text = map (λ w. w.now) c.args.words.now in
    let is : c.from_residual.result ≡ Err (line_error (kind_of c.in_err-matches.field-0.0)) = search rules in
    let not_memory : line_error (kind_of c.in_err-matches.field-0.0) ≢ Memory = λ e.
    other (is ∙ ap (λ x. Err x) e) in
    is ∙ error-is (app_of c.args.command.now) words _ (c.in_err-matches.ensures.kinds free) not_memory

pub returns : goal.returns
returns c = λ free other.
    let words : List Text = map (λ w. w.now) c.args.words.now in
    let app : App = app_of c.args.command.now in
    let plain : has_hyphen words ≡ false = sym c.has_hyphen.ensures ∙ c.if-has_hyphen.false in
    let rows : rows_of (found_of c.in_ok-matches.matches) ≡ matches_of app words =
    (c.in_ok-matches.ensures.ok.2 (both _ _ free).0).0 in
    ap (λ (r : List Row). Ok r) rows ∙ sym (parsed-ok app words plain (c.in_ok-matches.ensures.kinds free))
