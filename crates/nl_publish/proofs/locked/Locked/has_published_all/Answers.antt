use Rattle.std.proofs.Common.{rules, ◌≡◌, ◌≢◌, [], ap, eqb, sym, ◌∙◌, subst, length, ◌++◌, ◌==◌, List, MatchBool}
use Rattle.std.proofs.lemmas.Bool.{eqb-false}
use Rattle.nl_commit.specs.declared.commit.Commit.{Commit}
use Rattle.nl_commit.specs.Notes.{shown_of}
use Rattle.nl_publish.specs.declared.reader_state.ReaderState.{ReaderState}
use Rattle.nl_publish.specs.Locks.{HeldPen, IsHeld, listed}
use Rattle.nl_publish.proofs.Holding.{settled, pending, empty_where}
use Rattle.nl_publish.proofs.locked.Locked.has_published_all.Goals as goal

pub returns-then-not-is_empty : goal.returns-then-not-is_empty
returns-then-not-is_empty g c =
    let s = c.self.inside in let w = g.W.Press in
    let some : length s.waiting.items ≢ 0 =
    eqb-false _ _
    (sym (c.is_empty.ensures ∙ ap (λ (l : List Commit). length l == 0) c.as_slice.ensures.value)
    ∙ search rules) in
    subst (λ (h : HeldPen). h.published ≢ h.history) c.self.view_is
    (pending g.J.Volumes.book s.log.volume (w.shown s.writer)
    (w.unseen s.writer ++ listed s.unsent) s.noted s.waiting.items
    (shown_of (g.P.NotingPen.layout s.pen)) c.self.invariant some)

pub returns : goal.returns
returns g c =
    let s = c.self.inside in let w = g.W.Press in
    let none : s.waiting.items ≡ [] =
    empty_where s.waiting.items c.is_empty.result
    (c.is_empty.ensures ∙ ap (λ (l : List Commit). length l == 0) c.as_slice.ensures.value) search
    rules in
    let held =
    subst (λ (l : List Commit).
    IsHeld g.J.Volumes.book s.log.volume (w.shown s.writer)
    (w.unseen s.writer ++ listed s.unsent) s.noted l (shown_of (g.P.NotingPen.layout s.pen)))
    none c.self.invariant in
    let state : ReaderState = c.state.result.now in
    let same : eqb (w.shown s.writer).count (length s.noted.commits) ≡ eqb state.count c.len.result =
    ap (λ (q : ReaderState). eqb q.count (length s.noted.commits)) (sym c.state.ensures)
    ∙ ap (eqb state.count) (sym c.len.ensures) in
    subst (λ (h : HeldPen).
    MatchBool (eqb state.count c.len.result) (h.published ≡ h.history) (h.published ≢ h.history))
    c.self.view_is
    (subst (λ (l : List Commit).
    MatchBool (eqb state.count c.len.result) ((w.shown s.writer).seen.log ≡ s.noted.commits ++ l)
    ((w.shown s.writer).seen.log ≢ s.noted.commits ++ l))
    (sym none)
    (settled g.J.Volumes.book s.log.volume (w.shown s.writer) (w.unseen s.writer ++ listed s.unsent) s.noted
    (shown_of (g.P.NotingPen.layout s.pen)) (eqb state.count c.len.result) same held))
