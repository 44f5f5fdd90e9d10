use Rattle.std.proofs.Common.{◌∙◌, ap}
use Rattle.nl_publish.specs.Locks.{HeldPen}
use Rattle.nl_publish.proofs.locked.Locked.take_apart.Goals as goal

pub returns-clause-whole : goal.returns-clause-whole
returns-clause-whole g c = c.self.invariant.whole

pub returns-clause-shown : goal.returns-clause-shown
returns-clause-shown g c = ap (λ (h : HeldPen). h.published) c.self.view_is

pub returns-clause-book : goal.returns-clause-book
returns-clause-book g c =
    c.self.invariant.book_is
    ∙ (ap g.J.Volumes.book c.self.invariant.volume
    ∙ ap (λ (h : HeldPen). g.J.Volumes.book h.volume) c.self.view_is)
