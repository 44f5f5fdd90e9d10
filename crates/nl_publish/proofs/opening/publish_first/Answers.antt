use Rattle.std.proofs.Common.{◌≡◌, ◌++◌, ◌∷◌, [], List, ap, sym, ◌∙◌, subst}
use Rattle.nl_commit.specs.Commits.{shown_after}
use Rattle.nl_commit.specs.Shown.{MountsRise}
use Rattle.nl_commit.specs.declared.commit.Commit.{Commit}
use Rattle.nl_publish.specs.Histories.{IsBegun}
use Rattle.nl_publish.proofs.opening.publish_first.Goals as goal

pub add-requires-clause-begun : goal.add-requires-clause-begun
add-requires-clause-begun g c =
    subst (λ (log : List Commit). IsBegun (log ++ c.args.commit.now ∷ [])) (sym c.requires.none) c.requires.first

pub publish-requires-clause-mounts : goal.publish-requires-clause-mounts
publish-requires-clause-mounts g c =
    let commit : Commit = c.args.commit.now in
    let commits : c.add.new.self.commits ≡ commit ∷ [] =
    c.if-not-add.ensures.added ∙ ap (λ (log : List Commit). log ++ commit ∷ []) c.requires.none in
    subst (λ (log : List Commit). MountsRise (shown_after log)) (sym commits) c.requires.mounts
