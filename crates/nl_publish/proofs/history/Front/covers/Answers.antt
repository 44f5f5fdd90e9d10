use Rattle.std.proofs.Common.{◌∙◌, ap, sym, subst, length, List}
use Rattle.std.specs.Prelude.{nat_le}
use mathlib.Core.List.{IsPrefix}
use Rattle.nl_commit.specs.declared.commit.Commit.{Commit}
use Rattle.nl_publish.proofs.Fronts.{prefix_covers}
use Rattle.nl_publish.proofs.history.Front.covers.Goals as goal

pub returns : goal.returns
returns g c =
    let both = c.learn.new.self.log in
    let mine = c.self.inside.seen.log in
    let others = c.other.inside.seen.log in
    let this : IsPrefix mine both =
    subst (λ (l : List Commit). IsPrefix l both)
    (ap (λ s. s.log) c.again-both.ensures) c.learn.ensures.2 in
    let counts =
    ap (λ n. nat_le n (length mine)) (sym c.other.invariant.0)
    ∙ ap (λ n. nat_le c.other.inside.count n) (sym c.self.invariant.0) in
    rw (← c.self.view_is, ← c.other.view_is) (prefix_covers mine others both this c.learn.ensures.3 _ counts)
