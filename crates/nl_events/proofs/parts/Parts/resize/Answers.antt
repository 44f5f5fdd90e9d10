use Rattle.std.proofs.Common.{◌≡◌, ◌++◌, List, length, refl, ap, sym, subst, ◌∙◌, arith}
use Rattle.std.specs.Prelude.{Ok, Err, true, false}
use Rattle.std.proofs.lemmas.Bool.{ltb-true}
use Rattle.std.proofs.lemmas.Result.{err_from_is_err_and}
use Rattle.nl_types.specs.declared.error.VolError.TheVariants as error
use Rattle.nl_types.specs.declared.event.Event.TheVariants.{Resize}
use Rattle.nl_types.specs.declared.reply.Answer.TheVariants as answer
use Rattle.nl_types.specs.Blocks.Segments.{Segments}
use Rattle.nl_reclaim.specs.Counted.{Counted}
use Rattle.nl_commit.specs.CleaningEvents.{kept_numbers, resized_in}
use Rattle.nl_commit.specs.Layout.{layout_of}
use Rattle.nl_commit.specs.Notes.{told_where, where_true}
use Rattle.nl_commit.specs.declared.commit.Commit.{Commit}
use Rattle.nl_commit.specs.declared.commit.Commit.TheVariants.{Resized}
use Rattle.nl_events.specs.NeededBlocks.{AreNeededCounts}
use Rattle.nl_events.specs.Facts.ResizedPens.{counts-are-as-many, does-not-resized, does-resized, has-as-many, has-resized, is-more, not-asked, not-grown}
use Rattle.nl_events.proofs.NotedEvents.{telling-refused, telling-resized, told-none}
use Rattle.nl_events.proofs.parts.Parts.resize.Goals as goal

pub returns-in_err-adds_segments : goal.returns-in_err-adds_segments
returns-in_err-adds_segments g c =
    let p = err_from_is_err_and c.from_residual.result c.from_residual.ensures.1 in
    let l = c.self.inside.tables.lists in
    let old = g.V.Vstore.store c.self.inside.store in
    let e = c.in_err-adds_segments.field-0.0 in
    let before = g.N.Notes.commits c.args.notes.now in
    rw (p.1, p.2, ← c.self.view_is)
    (telling-refused g.N.Notes.told (layout_of l old) (Resize c.args.segments) (layout_of l old) before before
    c.self.invariant.pen e
    (does-not-resized l old old c.args.segments c.self.invariant.pen c.self.invariant.pen.sound.store (omega arith) e
    (not-asked c.args.segments e old
    (subst (λ (s : Segments). resized_in s c.args.segments ≡ Err e) c.table.ensures
    c.in_err-adds_segments.ensures.refused)))
    refl)

pub returns-then-not-branch : goal.returns-then-not-branch
returns-then-not-branch g c =
    let l = c.self.inside.tables.lists in
    let old = g.V.Vstore.store c.self.inside.store in
    let before = g.N.Notes.commits c.args.notes.now in
    let fewer =
    is-more old.segments c.table.result.now c.args.segments c.in_ok-adds_segments.field-0 false c.table.ensures
    c.in_ok-adds_segments.ensures.adds c.if-not-branch.true in
    rw (← c.self.view_is)
    (telling-resized g.N.Notes.told (layout_of l old) (layout_of l old) c.args.segments old.segments.blocks false
    answer.Done before before c.self.invariant.pen
    (does-resized l old old c.args.segments c.self.invariant.pen c.self.invariant.pen.sound.store (omega arith)
    (has-as-many c.args.segments old
    (subst (λ (s : Segments). resized_in s c.args.segments ≡ Ok answer.Done) c.table.ensures
    c.in_ok-adds_segments.ensures.done)
    fewer))
    fewer refl (told-none g.N.Notes.told before))

pub returns-in_err-reserve : goal.returns-in_err-reserve
returns-in_err-reserve g c =
    let p =
    err_from_is_err_and c.from_residual-in_err-reserve.result c.from_residual-in_err-reserve.ensures.1 in
    let l = c.self.inside.tables.lists in
    let old = g.V.Vstore.store c.self.inside.store in
    rw (p.1, p.2, ← c.self.view_is)
    (telling-refused g.N.Notes.told (layout_of l old) (Resize c.args.segments) (layout_of l old)
    (g.N.Notes.commits c.args.notes.now)
    (g.N.Notes.commits c.reserve.new.self) c.self.invariant.pen error.Memory
    (does-not-resized l old old c.args.segments c.self.invariant.pen c.self.invariant.pen.sound.store (omega arith)
    error.Memory (
      subst (λ (s : Segments). resized_in s c.args.segments ≡ Ok answer.Done) c.table.ensures
          c.in_ok-adds_segments.ensures.done,
      refl,
    ))
    c.reserve.ensures.same)

pub add_segments-requires-clause-counts : goal.add_segments-requires-clause-counts
add_segments-requires-clause-counts g c =
    counts-are-as-many c.self.inside.tables.lists
    (g.V.Vstore.store c.self.inside.store) c.self.inside.needed c.self.invariant.counts

pub returns-in_err-add_segments : goal.returns-in_err-add_segments
returns-in_err-add_segments g c =
    let p =
    err_from_is_err_and c.from_residual-in_err-add_segments.result
    c.from_residual-in_err-add_segments.ensures.1 in
    let l = c.self.inside.tables.lists in
    let old = g.V.Vstore.store c.self.inside.store in
    let new = g.V.Vstore.store c.add_segments.new.store in
    let e = c.in_err-add_segments.field-0.0 in
    rw (p.1, p.2, ← c.self.view_is)
    (telling-refused g.N.Notes.told (layout_of l old) (Resize c.args.segments) (layout_of l new)
    (g.N.Notes.commits c.args.notes.now)
    (g.N.Notes.commits c.reserve.new.self) c.self.invariant.pen e
    (does-not-resized l old new c.args.segments c.self.invariant.pen
    (g.met.V.Vstore.is_store c.add_segments.new.store) c.add_segments.ensures.counted e
    (not-grown c.args.segments e old new
    (subst (λ (s : Segments). resized_in s c.args.segments ≡ Ok answer.Done) c.table.ensures
    c.in_ok-adds_segments.ensures.done)
    c.in_err-add_segments.ensures.refused))
    c.reserve.ensures.same)

pub invariant_of-self : goal.invariant_of-self
invariant_of-self g c =
    let l = c.self.inside.tables.lists in
    let old = g.V.Vstore.store c.self.inside.store in
    let new = g.V.Vstore.store c.add_segments.new.store in
    record {
      pen = (returns-in_err-add_segments g c).does.pen;
      counts =
          subst (λ (counted : Counted). AreNeededCounts (layout_of l new) counted)
          (sym c.in_err-add_segments.ensures.same)
          (c.growth_keeps_counts.ensures.refused c.in_err-add_segments.field-0.0
          (kept_numbers l) c.self.inside.needed old new c.self.invariant.pen.sound.store
          (g.met.V.Vstore.is_store c.add_segments.new.store) c.in_err-add_segments.ensures.refused
          c.self.invariant.counts);
    }

pub returns : goal.returns
returns g c =
    let l = c.self.inside.tables.lists in
    let old = g.V.Vstore.store c.self.inside.store in
    let new = g.V.Vstore.store c.add_segments.new.store in
    let more =
    is-more old.segments c.table.result.now c.args.segments c.in_ok-adds_segments.field-0 true c.table.ensures
    c.in_ok-adds_segments.ensures.adds c.if-not-branch.false in
    let told = g.N.Notes.told in
    let before = g.N.Notes.commits c.args.notes.now in
    let blocks = c.blocks-blocks.result in
    rw (← c.self.view_is)
    (telling-resized told (layout_of l old) (layout_of l new) c.args.segments blocks true answer.Done before
    (g.N.Notes.commits c.note.new.self) c.self.invariant.pen
    (does-resized l old new c.args.segments c.self.invariant.pen
    (g.met.V.Vstore.is_store c.add_segments.new.store) c.add_segments.ensures.counted
    (has-resized c.args.segments old new more
    (subst (λ (s : Segments). resized_in s c.args.segments ≡ Ok answer.Done) c.table.ensures
    c.in_ok-adds_segments.ensures.done)
    c.in_ok-add_segments.ensures.grown))
    more
    (c.blocks-blocks.ensures.blocks ∙ ap (λ (s : Segments). s.blocks) c.table-2.ensures)
    (c.note.ensures
    ∙ ap (λ (ns : List Commit). ns ++ told_where told (where_true true (Resized c.args.segments blocks)))
    c.reserve.ensures.same))

pub invariant_of-self-2 : goal.invariant_of-self-2
invariant_of-self-2 g c =
    let l = c.self.inside.tables.lists in
    let old = g.V.Vstore.store c.self.inside.store in
    let new = g.V.Vstore.store c.add_segments.new.store in
    let more =
    is-more old.segments c.table.result.now c.args.segments c.in_ok-adds_segments.field-0 true c.table.ensures
    c.in_ok-adds_segments.ensures.adds c.if-not-branch.false in
    let low = ltb-true (length old.segments.each) c.args.segments more in
    record {
      pen = (returns g c).does.pen;
      counts =
          subst (λ (counted : Counted). AreNeededCounts (layout_of l new) counted)
          (sym c.in_ok-add_segments.ensures.counts)
          (c.growth_keeps_counts.ensures.grown c.args.segments
          (kept_numbers l) c.self.inside.needed old new c.self.invariant.pen.sound.store
          (g.met.V.Vstore.is_store c.add_segments.new.store)
          (omega (arith, low)) c.in_ok-add_segments.ensures.grown c.self.invariant.counts);
    }
