use Rattle.std.proofs.Common.{ℕ, List, subst, sym}
use Rattle.std.specs.Prelude.{Ok, Err}
use Rattle.std.proofs.lemmas.Result.{err_from_is_err_and}
use Rattle.nl_commit.specs.Layout.{layout_of}
use Rattle.nl_commit.specs.Volume.{IsTakenOut, Lists}
use Rattle.nl_events.specs.Facts.CountedPens.{range-taken}
use Rattle.nl_events.specs.NeededBlocks.{IsCountedPen}
use Rattle.nl_events.proofs.Moving.{does-RemoveRange, pages_under}
use Rattle.nl_events.proofs.parts.Parts.remove_range.Goals as goal

pub returns-in_err-answer : goal.returns-in_err-answer
returns-in_err-answer g c =
    let p = err_from_is_err_and c.from_residual.result c.from_residual.ensures.1 in
    let store = g.V.Vstore.store c.self.inside.store in
    rw (p.1, p.2, ← c.self.view_is)
    (does-RemoveRange c.self.inside.tables.lists c.remove_range.new.self.lists store c.args.first c.args.last
    (Err c.in_err-answer.field-0.0) c.self.invariant.pen
    (c.in_err-answer.ensures.follows (pages_under store)) c.in_err-answer.ensures.removed
    c.in_err-answer.ensures.same)

-- the lists are as they were
pub invariant_of-self : goal.invariant_of-self
invariant_of-self g c =
    subst (λ (l : Lists). IsCountedPen (layout_of l (g.V.Vstore.store c.self.inside.store)) c.self.inside.needed)
    (sym c.in_err-answer.ensures.same) c.self.invariant

pub returns : goal.returns
returns g c =
    let store = g.V.Vstore.store c.self.inside.store in
    rw (← c.self.view_is)
    (does-RemoveRange c.self.inside.tables.lists c.remove_range.new.self.lists store c.args.first c.args.last
    (Ok c.in_ok-answer.answer) c.self.invariant.pen
    (c.in_ok-answer.ensures.follows (pages_under store)) c.in_ok-answer.ensures.removed
    c.in_ok-answer.ensures.same)

pub invariant_of-self-2 : goal.invariant_of-self-2
invariant_of-self-2 g c =
    let old = c.self.inside.tables.lists in
    let new = c.remove_range.new.self.lists in
    record {
      pen = (returns g c).pen;
      counts =
          c.let_go.ensures old
          (subst (λ (gone : List ℕ). IsTakenOut gone old new) (sym c.gone_by.ensures)
          (range-taken c.args.first c.args.last c.in_ok-answer.answer old new c.in_ok-answer.ensures.removed))
          c.self.invariant.counts;
    }
