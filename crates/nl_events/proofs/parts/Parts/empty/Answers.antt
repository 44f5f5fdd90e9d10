use Rattle.std.proofs.Common.{refl, sym, subst, ◌∙◌, arith}
use Rattle.std.proofs.lemmas.Result.{err_from_is_err_and}
use Rattle.nl_vstore.specs.Stores.{Store}
use Rattle.nl_commit.specs.CleaningEvents.{kept_numbers, needed_by}
use Rattle.nl_commit.specs.Layout.{layout_of}
use Rattle.nl_events.specs.NeededBlocks.{IsCountedPen}
use Rattle.nl_events.specs.Facts.CleaningEvents.{does-not-retired, does-retired}
use Rattle.nl_events.specs.Facts.CountedPens.{judged, retired-counts, told-none}
use Rattle.nl_events.proofs.parts.Parts.empty.Goals as goal

pub returns-in_err-count : goal.returns-in_err-count
returns-in_err-count g c =
    let p = err_from_is_err_and c.from_residual.result c.from_residual.ensures.1 in
    let l = c.self.inside.tables.lists in
    let old = g.V.Vstore.store c.self.inside.store in
    rw (p.1, p.2, ← c.self.view_is)
    (does-not-retired l old old c.args.segment c.self.invariant.pen c.self.invariant.pen.sound.store
    (omega arith) c.in_err-count.field-0.0
    (told-none old (needed_by l) c.args.segment c.in_err-count.field-0.0
    (c.in_err-count.ensures.needed old (kept_numbers l) c.self.invariant.counts)).1
    refl)

pub returns-in_err-freed : goal.returns-in_err-freed
returns-in_err-freed g c =
    let p = err_from_is_err_and c.from_residual-in_err-freed.result c.from_residual-in_err-freed.ensures.1 in
    let l = c.self.inside.tables.lists in
    let old = g.V.Vstore.store c.self.inside.store in
    let new = g.V.Vstore.store c.retire.new.store in
    rw (p.1, p.2, ← c.self.view_is)
    (does-not-retired l old new c.args.segment c.self.invariant.pen
    (g.met.V.Vstore.is_store c.retire.new.store) c.retire.ensures.counted c.in_err-freed.field-0.0
    (judged old l c.args.segment c.in_ok-count.count
    (c.in_ok-count.ensures.needed old (kept_numbers l) c.self.invariant.counts)
    ∙ sym c.in_err-freed.ensures.answers)
    c.in_err-freed.ensures.same)

-- the store is as it was
pub invariant_of-self : goal.invariant_of-self
invariant_of-self g c =
    subst (λ (s : Store). IsCountedPen (layout_of c.self.inside.tables.lists s) c.self.inside.needed)
    (sym c.in_err-freed.ensures.same) c.self.invariant

pub returns : goal.returns
returns g c =
    let l = c.self.inside.tables.lists in
    let old = g.V.Vstore.store c.self.inside.store in
    let new = g.V.Vstore.store c.retire.new.store in
    rw (← c.self.view_is)
    (does-retired l old new c.args.segment c.self.invariant.pen
    (g.met.V.Vstore.is_store c.retire.new.store) c.retire.ensures.counted c.in_ok-freed.freed
    (judged old l c.args.segment c.in_ok-count.count
    (c.in_ok-count.ensures.needed old (kept_numbers l) c.self.invariant.counts)
    ∙ sym c.in_ok-freed.ensures.answers)
    c.in_ok-freed.ensures.freed)

pub invariant_of-self-2 : goal.invariant_of-self-2
invariant_of-self-2 g c =
    let l = c.self.inside.tables.lists in
    let old = g.V.Vstore.store c.self.inside.store in
    let new = g.V.Vstore.store c.retire.new.store in
    record {
      pen = (returns g c).pen;
      counts =
          retired-counts l old new c.args.segment c.self.inside.needed c.self.invariant.pen
          (g.met.V.Vstore.is_store c.retire.new.store) c.self.invariant.counts
          c.counts_stay.ensures.retired c.in_ok-freed.freed
          (judged old l c.args.segment c.in_ok-count.count
          (c.in_ok-count.ensures.needed old (kept_numbers l) c.self.invariant.counts)
          ∙ sym c.in_ok-freed.ensures.answers)
          c.in_ok-freed.ensures.freed;
    }
