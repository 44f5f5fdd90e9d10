use Rattle.std.proofs.Common.{◌+◌, ◌++◌, ◌≡◌, refl, subst, MatchBool}
use Rattle.nl_commit.specs.Notes.{shown_of}
use Rattle.nl_publish.specs.Locks.{HeldPen, StaysHeld, listed}
use Rattle.nl_publish.specs.Refusals.{HasRefused}
use Rattle.nl_publish.proofs.Counting.{counts_on}
use Rattle.nl_publish.proofs.Handing.{held_view, shown_so}
use Rattle.nl_publish.proofs.Holding.{shows, shows_more, next_start}
use Rattle.nl_publish.proofs.locked.Locked.show.Goals as goal

pub show-requires : goal.show-requires
show-requires g c = let s = c.self.inside in let w = g.W.Press in
    next_start (w.shown s.writer) (w.unseen s.writer) (listed s.unsent) c.self.invariant.next

pub invariant_of-self : goal.invariant_of-self
invariant_of-self g c =
    let s = c.self.inside in let w = g.W.Press in
    shows g.J.Volumes.book s.log.volume (w.shown s.writer) (w.shown c.show.new.self) (w.unseen s.writer)
    (w.unseen c.show.new.self) (listed s.unsent) s.noted s.waiting.items
    (shown_of (g.P.NotingPen.layout s.pen)) c.show.result c.show.ensures.shown c.self.invariant

pub returns-clause-kept : goal.returns-clause-kept
returns-clause-kept g c =
    let s = c.self.inside in let w = g.W.Press in
    let more =
    shows_more g.J.Volumes.book s.log.volume (w.shown s.writer) (w.shown c.show.new.self)
    (w.unseen s.writer) (w.unseen c.show.new.self) (listed s.unsent) s.noted s.waiting.items
    (shown_of (g.P.NotingPen.layout s.pen)) c.show.result c.show.ensures.shown c.self.invariant in
    let new : HeldPen =
    held_view (w.shown c.show.new.self) s.noted s.unsent s.waiting.items s.lost (g.P.NotingPen.layout s.pen)
    (w.refusals c.show.new.self + s.log.refusals) in
    subst (λ (h : HeldPen). StaysHeld h new) c.self.view_is (
      record {
        volume = refl;
        runs = refl;
        later = more;
        counts =
            counts_on (w.refusals s.writer) (w.refusals c.show.new.self) s.log.refusals c.show.result
            c.show.ensures.counted;
      },
      refl,
    )

pub returns-clause-shown : goal.returns-clause-shown
returns-clause-shown g c =
    let s = c.self.inside in let w = g.W.Press in
    let now = w.shown c.show.new.self in let count = w.refusals c.show.new.self + s.log.refusals in
    subst (λ (h : HeldPen).
    MatchBool c.show.result (h.unsent ≡ 0 → now.seen.log ≡ s.noted.commits ++ s.waiting.items)
    (HasRefused h.refusals count))
    c.self.view_is
    (shown_so g.J.Volumes.book s.log.volume (w.shown s.writer) now (w.unseen s.writer)
    (w.unseen c.show.new.self) s.unsent s.noted s.waiting.items (shown_of (g.P.NotingPen.layout s.pen))
    (w.refusals s.writer) (w.refusals c.show.new.self) s.log.refusals c.show.result c.show.ensures.shown
    c.show.ensures.counted c.self.invariant)
