use Rattle.std.proofs.Common.{◌≡◌, ◌≢◌, ℕ, ◌<◌, Bool, false, eqb, ◌∷◌, ◌++◌, [], List, length, refl, sym, ap, ◌∙◌, arith}
use Rattle.std.specs.Prelude.{Ok}
use Rattle.std.proofs.lemmas.Bool.{eqb-false, eqb-true}
use Rattle.std.proofs.lemmas.Result.{err_from_is_err_and}
use Rattle.nl_types.specs.declared.error.VolError.TheVariants as error
use Rattle.nl_types.specs.declared.event.Event.TheVariants.{Move}
use Rattle.nl_types.specs.declared.reply.Answer.TheVariants as answer
use Rattle.nl_cpfile.specs.declared.checkpoint.Checkpoint.{Checkpoint}
use Rattle.nl_cpfile.specs.Tables.{with_next}
use Rattle.nl_commit.specs.CleaningEvents.{kept_numbers}
use Rattle.nl_commit.specs.Layout.{layout_of}
use Rattle.nl_commit.specs.Notes.{told_where}
use Rattle.nl_commit.specs.Volume.{Lists, minor_checkpoint, with_minor}
use Rattle.nl_commit.specs.declared.commit.Commit.{Commit}
use Rattle.nl_events.specs.Facts.CleaningEvents.{does-idle, does-moved, does-not-moved, stays}
use Rattle.nl_events.specs.Facts.CountedPens.{minor-counted, moved-listed, moved-needed, moved-some, not-drafted, not-listed, not-moved}
use Rattle.nl_events.proofs.NotedEvents.{telling, telling-moved, telling-refused, told-none}
use Rattle.nl_events.proofs.parts.Parts.move_out.Goals as goal

-- a list that is not empty
some-listed : (slice listed : List ℕ) (empty : Bool) → empty ≡ eqb (length slice) 0 → empty ≡ false
    → slice ≡ listed → 0 < length listed
some-listed slice listed empty is not_empty value =
    let other : length slice ≢ 0 = eqb-false (length slice) 0 (sym is ∙ not_empty) in
    let same : length slice ≡ length listed = ap length value in
    omega (arith, other, same)

pub returns-in_err-listed : goal.returns-in_err-listed
returns-in_err-listed g c =
    let p = err_from_is_err_and c.from_residual.result c.from_residual.ensures.1 in
    let before = g.N.Notes.commits c.args.notes.now in
    let l = c.self.inside.tables.lists in
    let s = g.V.Vstore.store c.self.inside.store in
    let e = c.in_err-listed.field-0.0 in
    rw (p.1, p.2, ← c.self.view_is)
    (telling-refused g.N.Notes.told (layout_of l s) (Move c.args.segment c.args.limit c.args.now)
    (layout_of l s) before before c.self.invariant.pen e
    (does-not-moved l s s c.args.segment c.args.limit c.args.now c.self.invariant.pen
    c.self.invariant.pen.sound.store (omega arith) e
    (not-listed l s c.args.segment c.args.limit c.args.now e c.in_err-listed.ensures.refused)) refl)

pub returns-then-is_empty : goal.returns-then-is_empty
returns-then-is_empty g c =
    let told = g.N.Notes.told in
    let before = g.N.Notes.commits c.args.notes.now in
    let l = c.self.inside.tables.lists in
    let s = g.V.Vstore.store c.self.inside.store in
    let listed = c.in_ok-listed.listed in
    let none = eqb-true (length c.as_slice.result.now) 0 (sym c.is_empty.ensures ∙ c.if-is_empty.true) in
    rw (← c.self.view_is)
    (telling told (layout_of l s) (Move c.args.segment c.args.limit c.args.now)
    (layout_of l s) before before c.self.invariant.pen
    (Ok (answer.Moved 0 0)) []
    (does-idle l s c.args.segment c.args.limit c.args.now listed.count listed.first.items
    c.self.invariant.pen
    c.in_ok-listed.ensures.listed
    (sym (ap length c.as_slice.ensures.value) ∙ none))
    (told-none told before) refl)

pub returns-in_err-minor : goal.returns-in_err-minor
returns-in_err-minor g c =
    let p = err_from_is_err_and c.from_residual-in_err-minor.result c.from_residual-in_err-minor.ensures.1 in
    let before = g.N.Notes.commits c.args.notes.now in
    let l = c.self.inside.tables.lists in
    let s = g.V.Vstore.store c.self.inside.store in
    let listed = c.in_ok-listed.listed in
    let e = c.in_err-minor.field-0.0 in
    rw (p.1, p.2, ← c.self.view_is, c.draft_minor.ensures.same)
    (telling-refused g.N.Notes.told (layout_of l s) (Move c.args.segment c.args.limit c.args.now)
    (layout_of l s) before before c.self.invariant.pen e
    (does-not-moved l s s c.args.segment c.args.limit c.args.now c.self.invariant.pen
    c.self.invariant.pen.sound.store (omega arith) e
    (not-drafted l s s c.args.segment c.args.limit c.args.now listed.count listed.first.items
    c.in_ok-listed.ensures.listed
    e (some-listed _ _ _ c.is_empty.ensures c.if-is_empty.false c.as_slice.ensures.value) refl
    c.in_err-minor.ensures.refused))
    refl)

pub invariant_of-self : goal.invariant_of-self
invariant_of-self g c = rw c.draft_minor.ensures.same c.self.invariant

pub returns-in_err-reserve : goal.returns-in_err-reserve
returns-in_err-reserve g c =
    let p =
    err_from_is_err_and c.from_residual-in_err-reserve.result c.from_residual-in_err-reserve.ensures.1 in
    let before = g.N.Notes.commits c.args.notes.now in
    let l = c.self.inside.tables.lists in
    let s = g.V.Vstore.store c.self.inside.store in
    let listed = c.in_ok-listed.listed in
    rw (p.1, p.2, ← c.self.view_is, c.draft_minor.ensures.same)
    (telling-refused g.N.Notes.told (layout_of l s) (Move c.args.segment c.args.limit c.args.now)
    (layout_of l s) before
    (g.N.Notes.commits c.reserve.new.self) c.self.invariant.pen error.Memory
    (does-not-moved l s s c.args.segment c.args.limit c.args.now c.self.invariant.pen
    c.self.invariant.pen.sound.store (omega arith) error.Memory
    (not-drafted l s s c.args.segment c.args.limit c.args.now listed.count listed.first.items
    c.in_ok-listed.ensures.listed
    error.Memory (some-listed _ _ _ c.is_empty.ensures c.if-is_empty.false c.as_slice.ensures.value) refl
    c.in_ok-minor.ensures.left))
    c.reserve.ensures.same)

pub returns-in_err-count : goal.returns-in_err-count
returns-in_err-count g c =
    let p =
    err_from_is_err_and c.from_residual-in_err-count.result c.from_residual-in_err-count.ensures.1 in
    let l = c.self.inside.tables.lists in
    let old = g.V.Vstore.store c.self.inside.store in
    let new = g.V.Vstore.store c.move_listed.new.store in
    let listed = c.in_ok-listed.listed in
    let e = c.in_err-count.field-0.0 in
    rw (p.1, p.2, ← c.self.view_is, c.draft_minor.ensures.same)
    (telling-refused g.N.Notes.told (layout_of l old) (Move c.args.segment c.args.limit c.args.now)
    (layout_of l new) (g.N.Notes.commits c.args.notes.now)
    (g.N.Notes.commits c.reserve.new.self) c.self.invariant.pen e
    (does-not-moved l old new c.args.segment c.args.limit c.args.now c.self.invariant.pen
    (g.met.V.Vstore.is_store c.move_listed.new.store) c.move_listed.ensures.counted e
    (not-moved l old new c.args.segment c.args.limit c.args.now listed.count listed.first.items
    c.in_ok-listed.ensures.listed
    c.in_ok-minor.minor.number e c.in_ok-minor.ensures.left
    (ap (λ (m : Checkpoint). m.number) c.in_ok-minor.ensures.drafted) c.in_err-count.ensures.refused))
    c.reserve.ensures.same)

pub invariant_of-self-in_err-count : goal.invariant_of-self-in_err-count
invariant_of-self-in_err-count g c =
    let old = g.V.Vstore.store c.self.inside.store in
    let new = g.V.Vstore.store c.move_listed.new.store in
    record {
      pen = (returns-in_err-count g c).does.pen;
      counts =
          rw c.draft_minor.ensures.same
          (c.refusals_keep_counts.ensures.moved c.in_ok-minor.minor.number c.args.now
          c.in_ok-listed.listed.first.items c.in_err-count.field-0.0
          (kept_numbers c.self.inside.tables.lists) c.self.inside.needed old new
          c.self.invariant.pen.sound.store
          (g.met.V.Vstore.is_store c.move_listed.new.store) c.in_err-count.ensures.refused
          c.self.invariant.counts);
    }

pub moved-requires : goal.moved-requires
moved-requires g c =
    let l = c.self.inside.tables.lists in
    let old = g.V.Vstore.store c.self.inside.store in
    let listed = c.in_ok-listed.listed in (
      old,
      kept_numbers l,
      c.self.invariant.counts,
      moved-needed c.first_needed_stand_there.ensures l old (g.V.Vstore.store c.move_listed.new.store)
          c.args.segment c.args.limit c.in_ok-minor.minor.number c.args.now listed.first.items
          c.as_slice-2.result.now c.self.invariant.pen.sound.store c.as_slice-2.ensures.value
          c.in_ok-listed.ensures.listed.first
          c.in_ok-listed.ensures.movable c.in_ok-count.ensures.moved,
    )

pub publish_minor-requires-clause-next : goal.publish_minor-requires-clause-next
publish_minor-requires-clause-next g c =
    let number = ap (λ (m : Checkpoint). m.number) c.in_ok-minor.ensures.drafted in
    let stamp = ap (λ (m : Checkpoint). m.stamp) c.in_ok-minor.ensures.drafted in
    let left = c.in_ok-minor.ensures.left in
    rw c.draft_minor.ensures.same (record {
      follows = record { number = omega (arith, number); stamp = omega (arith, stamp) };
      limit = omega (arith, number, left);
    })

-- the latest checkpoint once more
with-minor : (l drafted new : Lists) (minor : Checkpoint) (moment : ℕ) → drafted ≡ l
    → minor ≡ minor_checkpoint moment l → new ≡ record drafted { table = with_next minor drafted.table }
    → new ≡ with_minor moment l
with-minor l drafted new minor moment same is added =
    added ∙ ap (λ (ls : Lists). record ls { table = with_next minor ls.table }) same
    ∙ ap (λ (m : Checkpoint). record l { table = with_next m l.table }) is

pub returns : goal.returns
returns g c =
    let l = c.self.inside.tables.lists in
    let old = g.V.Vstore.store c.self.inside.store in
    let new = g.V.Vstore.store c.move_listed.new.store in
    let listed = c.in_ok-listed.listed in
    let minor = c.in_ok-minor.minor in
    let left = c.in_ok-minor.ensures.left in
    let count = c.in_ok-count.count in
    let told = g.N.Notes.told in
    let before = g.N.Notes.commits c.args.notes.now in
    let first = c.in_ok-listed.ensures.listed in
    let has =
    moved-listed l old new c.args.segment c.args.limit c.args.now listed.count listed.first.items first
    c.listed_moves_are_moves.ensures.moved minor.number count
    (ap (λ (m : Checkpoint). m.number) c.in_ok-minor.ensures.drafted)
    c.in_ok-count.ensures.count c.in_ok-count.ensures.moved in
    let some =
    moved-some l old new c.args.segment c.args.limit c.args.now listed.count listed.first.items first
    count c.in_ok-count.ensures.count
    (some-listed _ _ _ c.is_empty.ensures c.if-is_empty.false c.as_slice.ensures.value) in
    let lists = with-minor l c.draft_minor.new.self.lists c.publish_minor.new.self.lists minor c.args.now
    c.draft_minor.ensures.same c.in_ok-minor.ensures.drafted c.publish_minor.ensures in
    rw (← c.self.view_is, lists)
    (telling-moved told (layout_of l old) (layout_of (with_minor c.args.now l) new) c.args.segment
    c.args.limit c.args.now count minor before
    (g.N.Notes.commits c.note.new.self) c.self.invariant.pen
    (does-moved l old new c.args.segment c.args.limit c.args.now c.self.invariant.pen
    (g.met.V.Vstore.is_store c.move_listed.new.store) c.move_listed.ensures.counted count some left has)
    some
    (sym c.in_ok-minor.ensures.drafted)
    (c.note.ensures ∙ ap (λ (ns : List Commit). ns ++ told_where told (c.written_minor.result ∷ []))
    c.reserve.ensures.same
    ∙ ap (λ (commit : Commit). before ++ told_where told (commit ∷ [])) c.written_minor.ensures))

pub invariant_of-self-2 : goal.invariant_of-self-2
invariant_of-self-2 g c =
    let l = c.self.inside.tables.lists in
    let old = g.V.Vstore.store c.self.inside.store in
    let new = g.V.Vstore.store c.move_listed.new.store in
    let listed = c.in_ok-listed.listed in
    let first = c.in_ok-listed.ensures.listed in
    let lists = with-minor l c.draft_minor.new.self.lists c.publish_minor.new.self.lists c.in_ok-minor.minor
    c.args.now c.draft_minor.ensures.same c.in_ok-minor.ensures.drafted c.publish_minor.ensures in
    let has =
    moved-listed l old new c.args.segment c.args.limit c.args.now listed.count listed.first.items first
    c.listed_moves_are_moves.ensures.moved c.in_ok-minor.minor.number c.in_ok-count.count
    (ap (λ (m : Checkpoint). m.number) c.in_ok-minor.ensures.drafted)
    c.in_ok-count.ensures.count c.in_ok-count.ensures.moved in
    record {
      pen = (returns g c).does.pen;
      counts =
          rw lists
          (minor-counted c.counts_stay.ensures.empty c.args.now (layout_of l new) c.moved.new.self
          (stays l old new c.args.segment c.args.limit c.args.now c.self.invariant.pen
          (g.met.V.Vstore.is_store c.move_listed.new.store) c.move_listed.ensures.counted
          c.in_ok-count.count has).pen
          (c.moved.ensures old (kept_numbers l) c.self.invariant.counts
          (moved-needed c.first_needed_stand_there.ensures l old new
          c.args.segment c.args.limit c.in_ok-minor.minor.number c.args.now listed.first.items
          c.as_slice-2.result.now c.self.invariant.pen.sound.store c.as_slice-2.ensures.value first.first
          c.in_ok-listed.ensures.movable c.in_ok-count.ensures.moved)));
    }
