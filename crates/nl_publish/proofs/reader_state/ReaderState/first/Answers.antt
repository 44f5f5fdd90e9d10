use Rattle.std.proofs.Common.{◌≡◌, [], ◌∷◌, List, ap, sym, ◌∙◌, subst, length}
use Rattle.nl_commit.specs.Commits.{IsHistory, shown_after}
use Rattle.nl_commit.specs.declared.commit.Commit.{Commit}
use Rattle.nl_publish.specs.Histories.{IsBegun}
use Rattle.nl_commit.specs.Shown.{MountsRise}
use Rattle.nl_publish.proofs.reader_state.ReaderState.first.Goals as goal

pub first-requires : goal.first-requires
first-requires g c = record {
  history = subst IsBegun c.requires.first c.token-seen.ensures.begun;
  mounts = subst (λ (log : List Commit). MountsRise (shown_after log)) c.requires.first c.requires.mounts;
}

pub returns-clause-whole : goal.returns-clause-whole
returns-clause-whole g c =
    let commit : Commit = c.args.commit.now in
    let log : c.token-seen.result.log ≡ commit ∷ [] = c.token-seen.ensures.log ∙ c.requires.first in
    let begun : IsHistory (commit ∷ []) = subst IsBegun c.requires.first c.token-seen.ensures.begun in
    record {
      shown = c.in_ok-tables.ensures ∙ ap shown_after (sym log);
      count = c.len.ensures ∙ ap length (sym c.token-seen.ensures.log);
      history = subst IsHistory (sym log) begun;
    }
