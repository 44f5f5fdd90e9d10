use Rattle.std.proofs.Common.{ℕ, ◌+◌, ◌<◌, ◌≤◌, ◌++◌, ◌∷◌, [], ap, arith, length, subst, sym, Option}
use Rattle.nl_commit.specs.Notes.{shown_of}
use Rattle.nl_publish.specs.declared.reader_state.Entry.{Entry}
use Rattle.nl_publish.specs.Histories.{Adding}
use Rattle.nl_publish.specs.Locks.{HeldPen, IsHeld, StaysHeld, listed}
use Rattle.nl_publish.specs.Refusals.{HasRefused}
use Rattle.nl_publish.proofs.Counting.{refused_left, refused_right}
use Rattle.nl_publish.proofs.Handing.{comes_held, comes_keeps, fewer, held_view, left_over, nothing_held, nothing_keeps, taken_in}
use Rattle.nl_publish.proofs.Holding.{held_at}
use Rattle.nl_publish.proofs.locked.Locked.hand_one.Goals as goal

pub next_entry-requires-clause-some : goal.next_entry-requires-clause-some
next_entry-requires-clause-some g c = subst (λ (h : HeldPen). 0 < h.unsent) (sym c.self.view_is) c.requires

-- ---- nothing came

pub invariant_of-self : goal.invariant_of-self
invariant_of-self g c =
    let s = c.self.inside in let w = g.W.Press in let n = c.next_entry.new in let told = c.in_default.ensures in
    nothing_held g.J.Volumes.book s.log.volume n.log.volume s.unsent n.unsent s.noted n.noted s.waiting.items
    n.waiting.items c.next_entry.ensures.own told.none c.next_entry.ensures.out told.left told.waits
    (w.shown s.writer) (w.unseen s.writer) (shown_of (g.P.NotingPen.layout s.pen)) c.self.invariant

pub returns-in_default-clause-kept : goal.returns-in_default-clause-kept
returns-in_default-clause-kept g c =
    let s = c.self.inside in let w = g.W.Press in let n = c.next_entry.new in let told = c.in_default.ensures in
    let count : HasRefused (w.refusals s.writer + s.log.refusals) (w.refusals s.writer + n.log.refusals) =
    refused_right s.log.refusals n.log.refusals (w.refusals s.writer) told.refused in
    subst (λ (h : HeldPen).
    StaysHeld h
    (held_view (w.shown s.writer) n.noted n.unsent n.waiting.items s.lost (g.P.NotingPen.layout s.pen)
    (w.refusals s.writer + n.log.refusals)))
    c.self.view_is
    (nothing_keeps g.J.Volumes.book s.log.volume n.log.volume s.unsent n.unsent s.noted n.noted s.waiting.items
    n.waiting.items c.next_entry.ensures.own told.none c.next_entry.ensures.out told.left told.waits
    (w.shown s.writer) s.lost (g.P.NotingPen.layout s.pen) (w.refusals s.writer + s.log.refusals)
    (w.refusals s.writer + n.log.refusals) count.later)

pub returns-in_default-clause-handed : goal.returns-in_default-clause-handed
returns-in_default-clause-handed g c =
    let s = c.self.inside in let w = g.W.Press in let n = c.next_entry.new in
    subst (λ (h : HeldPen). HasRefused h.refusals (w.refusals s.writer + n.log.refusals)) c.self.view_is
    (refused_right s.log.refusals n.log.refusals (w.refusals s.writer) c.in_default.ensures.refused)

-- ---- the writer took it

pub invariant_of-self-in-Ok : goal.invariant_of-self-in-Ok
invariant_of-self-in-Ok g c =
    let s = c.self.inside in let w = g.W.Press in let n = c.next_entry.new in
    let e : Entry = c.in-Some.entry in let pen = shown_of (g.P.NotingPen.layout s.pen) in
    let came =
    comes_held g.J.Volumes.book s.unsent s.noted n.noted s.waiting.items n.waiting.items e s.log.volume
    (w.shown s.writer) (w.unseen s.writer) pen c.in-Some.ensures.comes c.self.invariant in
    subst (λ (v : ℕ).
    IsHeld g.J.Volumes.book v (w.shown c.push.new.self) (w.unseen c.push.new.self ++ listed n.unsent) n.noted
    n.waiting.items pen)
    (sym c.next_entry.ensures.own)
    (held_at g.J.Volumes.book s.log.volume (w.shown s.writer) (w.shown c.push.new.self)
    (w.unseen s.writer ++ e ∷ []) (w.unseen c.push.new.self ++ listed n.unsent) n.noted n.waiting.items pen
    c.push.ensures.shown
    (taken_in (w.unseen s.writer) (w.unseen c.push.new.self) n.unsent e c.in-Ok.ensures.unseen
    c.next_entry.ensures.out) came)

pub returns-in-Ok-clause-kept : goal.returns-in-Ok-clause-kept
returns-in-Ok-clause-kept g c =
    let s = c.self.inside in let w = g.W.Press in let n = c.next_entry.new in
    let layout = g.P.NotingPen.layout s.pen in
    let count : w.refusals s.writer + s.log.refusals ≤ w.refusals c.push.new.self + n.log.refusals =
    omega (arith, c.in-Ok.ensures.counted, ap (λ (a : Adding). a.refusals) c.in-Some.ensures.same) in
    subst (λ (h : HeldPen).
    StaysHeld h
    (held_view (w.shown c.push.new.self) n.noted n.unsent n.waiting.items s.lost layout
    (w.refusals c.push.new.self + n.log.refusals)))
    c.self.view_is
    (comes_keeps g.J.Volumes.book s.unsent s.noted n.noted s.waiting.items n.waiting.items c.in-Some.entry
    (w.shown s.writer) (w.shown c.push.new.self) n.unsent s.lost layout
    (w.refusals s.writer + s.log.refusals) (w.refusals c.push.new.self + n.log.refusals)
    c.in-Some.ensures.comes c.push.ensures.shown count)

pub returns-in-Ok-clause-handed : goal.returns-in-Ok-clause-handed
returns-in-Ok-clause-handed g c =
    let s = c.self.inside in let n = c.next_entry.new in
    subst (λ (h : HeldPen). length (listed n.unsent) + length n.waiting.items < h.unsent) c.self.view_is
    (fewer g.J.Volumes.book s.unsent s.noted n.noted s.waiting.items n.waiting.items c.in-Some.entry n.unsent
    c.in-Some.ensures.comes c.next_entry.ensures.out)

-- ---- it is left

pub invariant_of-self-in-Err : goal.invariant_of-self-in-Err
invariant_of-self-in-Err g c =
    let s = c.self.inside in let w = g.W.Press in let n = c.next_entry.new in
    let e : Entry = c.in-Some.entry in let unsent : Option Entry = c.keep_entry.new.unsent in
    let pen = shown_of (g.P.NotingPen.layout s.pen) in
    let came =
    comes_held g.J.Volumes.book s.unsent s.noted n.noted s.waiting.items n.waiting.items e s.log.volume
    (w.shown s.writer) (w.unseen s.writer) pen c.in-Some.ensures.comes c.self.invariant in
    subst (λ (v : ℕ).
    IsHeld g.J.Volumes.book v (w.shown c.push.new.self) (w.unseen c.push.new.self ++ listed unsent) n.noted
    n.waiting.items pen)
    (sym c.next_entry.ensures.own)
    (held_at g.J.Volumes.book s.log.volume (w.shown s.writer) (w.shown c.push.new.self)
    (w.unseen s.writer ++ e ∷ []) (w.unseen c.push.new.self ++ listed unsent) n.noted n.waiting.items pen
    c.push.ensures.shown
    (left_over (w.unseen s.writer) (w.unseen c.push.new.self) unsent e c.in-Err.entry
    c.in-Err.ensures.unseen.1 c.keep_entry.ensures c.in-Err.ensures.unseen.0) came)

pub returns-in-Err-clause-kept : goal.returns-in-Err-clause-kept
returns-in-Err-clause-kept g c =
    let s = c.self.inside in let w = g.W.Press in let n = c.next_entry.new in
    let layout = g.P.NotingPen.layout s.pen in
    let count : w.refusals s.writer + s.log.refusals ≤ w.refusals c.push.new.self + n.log.refusals =
    omega (arith, c.in-Err.ensures.counted.later, ap (λ (a : Adding). a.refusals) c.in-Some.ensures.same) in
    subst (λ (h : HeldPen).
    StaysHeld h
    (held_view (w.shown c.push.new.self) n.noted c.keep_entry.new.unsent n.waiting.items s.lost layout
    (w.refusals c.push.new.self + n.log.refusals)))
    c.self.view_is
    (comes_keeps g.J.Volumes.book s.unsent s.noted n.noted s.waiting.items n.waiting.items c.in-Some.entry
    (w.shown s.writer) (w.shown c.push.new.self) c.keep_entry.new.unsent s.lost layout
    (w.refusals s.writer + s.log.refusals) (w.refusals c.push.new.self + n.log.refusals)
    c.in-Some.ensures.comes c.push.ensures.shown count)

pub returns-in-Err-clause-handed : goal.returns-in-Err-clause-handed
returns-in-Err-clause-handed g c =
    let s = c.self.inside in let w = g.W.Press in let n = c.next_entry.new in
    subst (λ (h : HeldPen). HasRefused h.refusals (w.refusals c.push.new.self + n.log.refusals)) c.self.view_is
    (subst (λ (a : Adding).
    HasRefused (w.refusals s.writer + s.log.refusals) (w.refusals c.push.new.self + a.refusals))
    (sym c.in-Some.ensures.same)
    (refused_left (w.refusals s.writer) (w.refusals c.push.new.self) s.log.refusals
    c.in-Err.ensures.counted))
