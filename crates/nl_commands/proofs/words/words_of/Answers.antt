use Rattle.std.proofs.Common.{◌≡◌, ◌≢◌, ◌∙◌, ℕ, List, [], ◌∷◌, Bor, ap, map, sym, subst}
use Rattle.std.proofs.lemmas.List.{map-append}
use Rattle.nl_commands.specs.Splitting.{IsTrimmed, BeginsWith}
use Rattle.nl_commands.proofs.WordParts.{BeginsWith-push, holds_nothing, holds_something}
use Rattle.nl_commands.proofs.words.words_of.Goals as goal

abbrev bytes_of : List (Bor (List ℕ)) → List (List ℕ)
bytes_of words = map (λ w. w.now) words

pub loop-rest-preserved : goal.loop-rest-preserved
loop-rest-preserved c =
    let before = c.loop-rest.invariant.1 in
    let some : c.loop-rest.rest.now ≢ [] = holds_something c.loop-rest.rest.now c.loop-rest-test.ensures in
    let pushed =
    BeginsWith-push c.args.line.now
    (bytes_of c.loop-rest.words.items) before.0 c.loop-rest.rest.now c.in-Some.behind.now
    c.in-Some.word.now before.1 before.2 some c.in-Some.ensures in
    let more =
    ap bytes_of c.in_ok-push.ensures.items
    ∙ map-append (λ w. w.now) c.loop-rest.words.items (c.in-Some.word ∷ []) in (
      search,
      (
        c.in-Some.behind.now,
        subst (λ words. BeginsWith c.args.line.now words c.in-Some.behind.now) (sym more) pushed,
        c.trimmed-rest-in-loop-rest.ensures,
      ),
    )

pub returns-clause-words : goal.returns-clause-words
returns-clause-words c =
    let before = c.loop-rest.invariant.1 in
    let none : c.loop-rest.rest.now ≡ [] = holds_nothing c.loop-rest.rest.now c.loop-rest-test.ensures in
    (before.0, before.1, subst (λ start. IsTrimmed before.0 start) none before.2)
