use Rattle.std.proofs.Common.{◌≡◌, refl, subst, true, map, IfOk, List}
use Rattle.std.proofs.lemmas.Result.{IfOk-weaker}
use Rattle.clap.specs.Words.{App, FailsBy, HasMatchesOf, Text, fault_of, found_of, is_simple_and_free, matches_of, rows_of}
use Rattle.nl_commands.specs.Options.{program}
use Rattle.nl_commands.proofs.options.matches.Goals as goal

pub returns-clause-rows : goal.returns-clause-rows
returns-clause-rows c =
    let words : List Text = map (λ w. w.now) c.args.words.now in
    IfOk-weaker c.try_get_matches_from.result (HasMatchesOf program words)
    (λ m. rows_of (found_of m) ≡ matches_of program words)
    (λ m has. (has refl).0)
    (subst (λ (app : App). IfOk c.try_get_matches_from.result (HasMatchesOf app words))
    c.in_ok-program.ensures c.try_get_matches_from.ensures.matches)

pub returns-clause-kinds : goal.returns-clause-kinds
returns-clause-kinds c =
    let words : List Text = map (λ w. w.now) c.args.words.now in
    let by : is_simple_and_free program ≡ true
    → FailsBy (fault_of program words) c.try_get_matches_from.result =
    subst (λ (app : App).
    is_simple_and_free app ≡ true → FailsBy (fault_of app words) c.try_get_matches_from.result)
    c.in_ok-program.ensures c.try_get_matches_from.ensures.kinds in
    by refl
