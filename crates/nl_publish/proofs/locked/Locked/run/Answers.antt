use Rattle.std.proofs.Common.{◌+◌, ◌++◌, arith, refl, subst}
use Rattle.nl_publish.specs.Locks.{GoesBy, HeldPen, listed, state_of}
use Rattle.nl_publish.proofs.Fronts.{prefix_self}
use Rattle.nl_publish.proofs.Handing.{held_view}
use Rattle.nl_publish.proofs.Holding.{runs, noted_of}
use Rattle.nl_publish.proofs.locked.Locked.run.Goals as goal

pub invariant_of-self : goal.invariant_of-self
invariant_of-self g c =
    let s = c.self.inside in let w = g.W.Press in let layout = g.P.NotingPen.layout in
    runs g.J.Volumes.book s.log.volume (w.shown s.writer)
    (w.unseen s.writer ++ listed s.unsent) s.noted s.waiting.items c.apply_noting.new.notes.items
    (layout s.pen) (layout c.apply_noting.new.self) c.args.event.now c.apply_noting.result
    c.apply_noting.ensures c.self.invariant

pub returns : goal.returns
returns g c =
    let s = c.self.inside in let w = g.W.Press in let layout = g.P.NotingPen.layout in
    let new : HeldPen =
    held_view (w.shown s.writer) s.noted s.unsent c.apply_noting.new.notes.items s.lost
    (layout c.apply_noting.new.self) (w.refusals s.writer + s.log.refusals) in
    let step =
    noted_of s.noted.commits s.waiting.items c.apply_noting.new.notes.items (layout s.pen)
    (layout c.apply_noting.new.self) c.args.event.now c.apply_noting.result c.apply_noting.ensures in
    subst (λ (h : HeldPen). GoesBy h c.args.event.now c.apply_noting.result new) c.self.view_is (
      record {
        volume = refl;
        runs = (state_of new, step, refl);
        later = prefix_self (w.shown s.writer).seen.log;
        counts = omega arith;
      },
      refl,
    )
