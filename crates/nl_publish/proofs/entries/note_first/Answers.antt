use Rattle.std.proofs.Common.{◌≡◌, ◌∙◌, ◌++◌, ◌∷◌, [], ap, subst, sym, append_assoc, List}
use Rattle.nl_commit.specs.declared.commit.Commit.{Commit}
use Rattle.nl_commit.specs.Commits.{IsHistory}
use Rattle.nl_publish.specs.Facts.Growing.{history_start}
use Rattle.nl_publish.proofs.Holding.{headed, same_head}
use Rattle.nl_publish.proofs.entries.note_first.Goals as goal

pub with_commit-requires-clause-begun : goal.with_commit-requires-clause-begun
with_commit-requires-clause-begun g c =
    let commit : Commit = c.index.result.now in let noted = c.args.noted.now.commits in
    let waits = headed c.args.waiting.now.items commit c.requires.some c.index.ensures in
    let history : IsHistory (noted ++ (commit ∷ _)) =
    subst (λ (l : List Commit). IsHistory (noted ++ l)) waits c.requires.history in
    history_start (noted ++ commit ∷ []) _
    (subst IsHistory (sym (append_assoc noted (commit ∷ []) _)) history)

pub returns-clause-noted : goal.returns-clause-noted
returns-clause-noted g c =
    let items = c.args.waiting.now.items in let commit : Commit = c.remove-commit.result in
    let head : c.index.result.now ≡ commit =
    same_head items c.index.result.now commit c.requires.some c.index.ensures c.remove-commit.ensures.value in
    record {
      first =
          headed items commit c.requires.some c.remove-commit.ensures.value
          ∙ ap (λ (l : List Commit). commit ∷ l) (sym c.remove-commit.ensures.items);
      volume = c.in-Some.ensures.volume;
      commits =
          c.in-Some.ensures.added ∙ ap (λ (k : Commit). c.args.noted.now.commits ++ k ∷ []) head;
      count = c.len.ensures;
      log = c.token.ensures.log;
      book_is = c.token.ensures.book;
    }
