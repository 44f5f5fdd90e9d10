use Rattle.std.proofs.Common.{◌≡◌, ◌∙◌, ◌<◌, ◌==◌, ap, length, not, subst, List, MatchBool}
use Rattle.nl_commit.specs.declared.commit.Commit.{Commit}
use Rattle.nl_publish.specs.Locks.{HeldPen}
use Rattle.nl_publish.proofs.Handing.{commit_left, entry_left}
use Rattle.nl_publish.proofs.locked.Locked.has_unsent.Goals as goal

pub returns-in-Some : goal.returns-in-Some
returns-in-Some g c =
    let s = c.self.inside in
    subst (λ (h : HeldPen). 0 < h.unsent) c.self.view_is
    (entry_left s.unsent s.waiting.items c.in-Some.field-0 c.in-Some.is)

pub returns-in-None : goal.returns-in-None
returns-in-None g c =
    let s = c.self.inside in
    subst (λ (h : HeldPen). MatchBool (not c.is_empty.result) (0 < h.unsent) (h.unsent ≡ 0)) c.self.view_is
    (commit_left s.unsent s.waiting.items c.is_empty.result c.in-None.is
    (c.is_empty.ensures ∙ ap (λ (l : List Commit). length l == 0) c.as_slice.ensures.value))
