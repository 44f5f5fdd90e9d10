use Rattle.std.proofs.Common.{◌+◌, ◌++◌, length, subst}
use Rattle.nl_publish.specs.Locks.{IsHeldPen, listed}
use Rattle.nl_publish.proofs.Holding.{told}
use Rattle.nl_publish.proofs.locked.Locked.is_told.Goals as goal

pub returns : goal.returns
returns g c =
    let s = c.self.inside in let w = g.W.Press in
    subst IsHeldPen c.self.view_is
    (told g.J.Volumes.book s.log.volume (w.shown s.writer)
    (w.unseen s.writer ++ listed s.unsent) s.noted s.waiting.items
    (g.P.NotingPen.layout s.pen) s.noted.volume (length (listed s.unsent) + length s.waiting.items)
    (w.refusals s.writer + s.log.refusals) s.lost c.self.invariant)
