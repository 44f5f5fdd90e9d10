use Rattle.std.proofs.Common.{◌≡◌, ◌≤◌, ℕ, ◌+◌, false, true, List, Option, sym, ap, subst, ◌∙◌, map, length, Some}
use Rattle.std.specs.Prelude.{Err}
use Rattle.std.specs.List.{All}
use Rattle.std.proofs.lemmas.Result.{err_from_is_err_and}
use Rattle.std.proofs.lemmas.List.{length-map}
use Rattle.nl_types.specs.Blocks.Segments.{IsClosed, StaysUsed}
use Rattle.nl_types.specs.Blocks.PartialMaps.{Partial, adjust_each}
use Rattle.nl_device.specs.Failures.{Failures, failure_count}
use Rattle.nl_vstore.specs.Content.{Payload, SpaceContent, KeepsUsed}
use Rattle.nl_vstore.specs.Appended.{IsAppended}
use Rattle.nl_dat.specs.declared.entries.DatEntry.{DatEntry}
use Rattle.nl_vstore.specs.Batches.{births_of}
use Rattle.nl_dat.specs.Table.{addresses_of, entry_in, stored_at, moved_entry}
use Rattle.nl_vstore.specs.Stores.{Store, IsMoved, IsMoveRefused, is_inside, address_in}
use Rattle.nl_dat.specs.Inside.{IsBacked, births_in, store_of, IsDatTable}
use Rattle.nl_dat.proofs.Writing.{table-kept}
use Rattle.nl_dat.proofs.Refusals.{both-counted, reads-counted, total-refused}
use Rattle.nl_dat.proofs.Relocating.{IsRelocationRefusal, table-moved, is_moved, move-refused, load-refused, theirs-of}
use Rattle.nl_dat.proofs.StoreOf.{address_in-store_of, is_store, same_store}
use Rattle.nl_dat.proofs.dat.DatVstore.relocate.Goals as goal

pub invariant_of-self-inside : goal.invariant_of-self-inside
invariant_of-self-inside g c =
    let later = g.S.Space.content c.load_all.new.space in
    let tabled =
    subst (IsDatTable c.self.inside.table (c.self.inside.filled + 1))
    (sym c.load_all.ensures.same) c.self.inside.tabled in (
      is_store c.self.inside.table (c.self.inside.filled + 1) later
          (g.S.Space.failed c.load_all.new.space) tabled (g.met.S.Space.limits c.load_all.new.space)
          (g.met.S.Space.whole_logs c.load_all.new.space) (g.met.S.Space.holds_only_used c.load_all.new.space)
          (g.met.S.Space.have_logs c.load_all.new.space),
      (tabled, tt),
    )

pub invariant_of-self-inside-in-Break-branch-2 : goal.invariant_of-self-inside-in-Break-branch-2
invariant_of-self-inside-in-Break-branch-2 g c =
    let mid = g.S.Space.content c.load_all.new.space in
    let later = g.S.Space.content c.append.new.self in
    let e = c.in_err-blocks.ensures in
    let tabled =
    table-kept c.self.inside.table (c.self.inside.filled + 1) mid later
    (subst (IsDatTable c.self.inside.table (c.self.inside.filled + 1))
    (sym c.in_ok-payload.ensures.same) c.self.inside.tabled)
    e.used_stay e.stays
    (total-refused mid later false c.args.now c.args.checkpoint c.deref.result.now c.in_err-blocks.field-0.0
    e.errors
    (λ is. ap g.S.Space.content (e.no_space_same (ap Err is)))
    (λ is. ap g.S.Space.content (e.memory_same (ap Err is))) (λ is. e.broken_off (ap Err is))) in (
      is_store c.self.inside.table (c.self.inside.filled + 1) later
          (g.S.Space.failed c.append.new.self) tabled
          (g.met.S.Space.limits c.append.new.self) (g.met.S.Space.whole_logs c.append.new.self)
          (g.met.S.Space.holds_only_used c.append.new.self) (g.met.S.Space.have_logs c.append.new.self),
      (tabled, tt),
    )

-- as many were read as were asked for
read-count : (table : List (Option DatEntry)) (space : SpaceContent) (numbers : List ℕ)
    (payload read : List Payload)
    → map (stored_at (entry_in table) (births_in space)) numbers ≡ map Some (births_of payload)
    → read ≡ payload → length read ≡ length numbers
read-count table space numbers payload read loaded is =
    ap length is ∙ sym (length-map payload Rattle.nl_vstore.specs.Batches.birth_of_item)
    ∙ sym (length-map (births_of payload) Some) ∙ sym (ap length loaded)
    ∙ length-map numbers (stored_at (entry_in table) (births_in space))

pub returns-in_err-blocks-clause-refused : goal.returns-in_err-blocks-clause-refused
returns-in_err-blocks-clause-refused g c =
    let p =
    err_from_is_err_and c.from_residual-in_err-blocks.result c.from_residual-in_err-blocks.ensures.1 in
    let table = c.self.inside.table in
    let old = g.S.Space.content c.self.inside.space in
    let mid = g.S.Space.content c.load_all.new.space in
    let later = g.S.Space.content c.append.new.self in
    let before = g.S.Space.failed c.self.inside.space in
    let after = g.S.Space.failed c.append.new.self in
    let e = c.in_err-blocks.ensures in
    let same : mid ≡ old = c.in_ok-payload.ensures.same in
    let loaded =
    ap (λ t. map (stored_at (entry_in t) (births_in old)) c.args.numbers.now) (sym c.as_slice.ensures)
    ∙ c.in_ok-payload.ensures.payload
    ∙ ap (λ items. map Some (births_of items)) (sym c.deref.ensures.value) in
    let refused : IsRelocationRefusal false c.args.now c.args.checkpoint c.deref.result.now
    c.in_err-blocks.field-0.0 mid later
    (g.S.Space.failed c.load_all.new.space) after =
    record {
      why = e.errors;
      no_space = λ is. (
        ap g.S.Space.content (e.no_space_same (ap Err is)),
        ap g.S.Space.failed (e.no_space_same (ap Err is)),
      );
      lacks = λ is. e.no_space (ap Err is);
      memory = λ is.
          (ap g.S.Space.content (e.memory_same (ap Err is)), ap g.S.Space.failed (e.memory_same (ap Err is)));
      risen = λ is. e.fault (ap Err is);
      broken = λ is. e.broken_off (ap Err is);
    } in
    rw (p.1, p.2) (subst
    (λ s.
    IsMoveRefused c.args.checkpoint c.args.now c.args.numbers.now s
    (store_of table later after) c.in_err-blocks.field-0.0)
    (same_store c.self.view_is)
    (move-refused table (c.self.inside.filled + 1) old later before
    (g.S.Space.failed c.load_all.new.space) after c.args.checkpoint c.args.now c.args.numbers.now
    c.deref.result.now c.in_err-blocks.field-0.0
    (g.met.S.Space.limits c.self.inside.space).tidy c.self.inside.tabled
    (theirs-of table
    (c.self.inside.filled + 1) old before c.args.numbers.now c.deref.result.now c.self.inside.tabled
    loaded)
    (subst (λ (m : SpaceContent). KeepsUsed m.segments m later) same e.used_stay) c.load_all.ensures.counted
    (subst (λ (m : SpaceContent).
    IsRelocationRefusal false c.args.now c.args.checkpoint c.deref.result.now c.in_err-blocks.field-0.0 m
    later
    (g.S.Space.failed c.load_all.new.space) after)
    same refused)))

-- as many blocks were answered as there are numbers
pub move_entries-requires-clause-each : goal.move_entries-requires-clause-each
move_entries-requires-clause-each g c =
    let old = g.S.Space.content c.self.inside.space in
    let e = c.in_ok-blocks.ensures in
    let count =
    read-count c.self.inside.table old c.args.numbers.now c.in_ok-payload.payload.items c.deref.result.now
    (ap (λ t. map (stored_at (entry_in t) (births_in old)) c.args.numbers.now) (sym c.as_slice.ensures)
    ∙ c.in_ok-payload.ensures.payload)
    c.deref.ensures.value in
    sym count ∙ sym e.appended.unused_before.count ∙ sym (ap length c.deref-2.ensures.value)

pub invariant_of-self-inside-2 : goal.invariant_of-self-inside-2
invariant_of-self-inside-2 g c =
    let table = c.self.inside.table in
    let old = g.S.Space.content c.self.inside.space in
    let later = g.S.Space.content c.append.new.self in
    let e = c.in_ok-blocks.ensures in
    let same = c.in_ok-payload.ensures.same in
    let loaded =
    ap (λ t. map (stored_at (entry_in t) (births_in old)) c.args.numbers.now) (sym c.as_slice.ensures)
    ∙ c.in_ok-payload.ensures.payload
    ∙ ap (λ items. map Some (births_of items)) (sym c.deref.ensures.value) in
    let tabled =
    table-moved table c.move_entries.new.table (c.self.inside.filled + 1) old later
    (g.S.Space.failed c.self.inside.space)
    (g.S.Space.failed c.append.new.self) c.args.checkpoint c.args.now c.args.segment c.args.numbers.now
    c.in_ok-blocks.blocks.items c.deref.result.now
    c.self.inside.tabled loaded
    (subst (λ m.
    IsAppended m later false c.args.now c.args.checkpoint c.deref.result.now c.in_ok-blocks.blocks.items)
    same e.appended)
    (subst (λ (m : SpaceContent). KeepsUsed m.segments m later) same e.used_stay)
    (subst (λ (m : SpaceContent). StaysUsed m.segments later.segments) same e.stays)
    (c.move_entries.ensures.entries
    ∙ ap (λ bs. adjust_each moved_entry c.args.numbers.now bs (entry_in table)) c.deref-2.ensures.value)
    c.move_entries.ensures.length in (
      is_store c.move_entries.new.table (c.self.inside.filled + 1) later
          (g.S.Space.failed c.append.new.self) tabled (g.met.S.Space.limits c.append.new.self)
          (g.met.S.Space.whole_logs c.append.new.self) (g.met.S.Space.holds_only_used c.append.new.self)
          (g.met.S.Space.have_logs c.append.new.self),
      (tabled, tt),
    )

pub returns-clause-moved : goal.returns-clause-moved
returns-clause-moved g c =
    let table = c.self.inside.table in
    let old = g.S.Space.content c.self.inside.space in
    let later = g.S.Space.content c.append.new.self in
    let e = c.in_ok-blocks.ensures in
    let same = c.in_ok-payload.ensures.same in
    let loaded =
    ap (λ t. map (stored_at (entry_in t) (births_in old)) c.args.numbers.now) (sym c.as_slice.ensures)
    ∙ c.in_ok-payload.ensures.payload
    ∙ ap (λ items. map Some (births_of items)) (sym c.deref.ensures.value) in
    subst (λ s.
    IsMoved c.args.segment c.args.checkpoint c.args.now c.args.numbers.now s
    (store_of c.move_entries.new.table later (g.S.Space.failed c.append.new.self)))
    (same_store c.self.view_is)
    (is_moved table c.move_entries.new.table (c.self.inside.filled + 1) old later
    (g.S.Space.failed c.self.inside.space)
    (g.S.Space.failed c.append.new.self) c.args.checkpoint c.args.now c.args.segment c.args.numbers.now
    c.in_ok-blocks.blocks.items c.deref.result.now
    c.self.inside.tabled loaded
    (subst (λ m.
    IsAppended m later false c.args.now c.args.checkpoint c.deref.result.now c.in_ok-blocks.blocks.items)
    same e.appended)
    (subst (λ (m : SpaceContent). KeepsUsed m.segments m later) same e.used_stay)
    (subst (λ (m : SpaceContent). StaysUsed m.segments later.segments) same e.stays)
    (c.move_entries.ensures.entries
    ∙ ap (λ bs. adjust_each moved_entry c.args.numbers.now bs (entry_in table)) c.deref-2.ensures.value)
    c.move_entries.ensures.length
    (g.met.S.Space.limits c.self.inside.space).tidy
    (subst (λ (s : Store). IsClosed s.segments c.args.segment)
    (sym (same_store c.self.view_is)) c.requires.closed)
    (subst (λ (s : Store).
    All (λ v. is_inside s.segments c.args.segment (address_in s v) ≡ true) c.args.numbers.now)
    (sym (same_store c.self.view_is)) c.requires.inside)
    (ap (λ (failures : Failures). failures.writes) e.unfailed ∙ c.load_all.ensures.counted.1))

pub returns-in_err-payload-clause-refused : goal.returns-in_err-payload-clause-refused
returns-in_err-payload-clause-refused g c =
    let p = err_from_is_err_and c.from_residual.result c.from_residual.ensures.1 in
    let e = c.in_err-payload.ensures in
    let later = g.S.Space.content c.load_all.new.space in
    let after = g.S.Space.failed c.load_all.new.space in
    rw (p.1, p.2) (subst
    (λ s.
    IsMoveRefused c.args.checkpoint c.args.now c.args.numbers.now s
    (store_of c.self.inside.table later after) c.in_err-payload.field-0.0)
    (same_store c.self.view_is)
    (load-refused c.self.inside.table (g.S.Space.content c.self.inside.space) later
    (g.S.Space.failed c.self.inside.space) after c.args.checkpoint c.args.now c.args.numbers.now
    c.in_err-payload.field-0.0 e.same e.errors c.load_all.ensures.counted
    (λ is. e.fault (ap Err is))))

pub returns-in_err-payload-clause-counted : goal.returns-in_err-payload-clause-counted
returns-in_err-payload-clause-counted g c =
    subst (λ (s : Store). s.failures ≤ failure_count (g.S.Space.failed c.load_all.new.space))
    (same_store c.self.view_is)
    (reads-counted (g.S.Space.failed c.self.inside.space) _ c.load_all.ensures.counted)

pub returns-in_err-blocks-clause-counted : goal.returns-in_err-blocks-clause-counted
returns-in_err-blocks-clause-counted g c =
    subst (λ (s : Store). s.failures ≤ failure_count (g.S.Space.failed c.append.new.self))
    (same_store c.self.view_is)
    (both-counted (g.S.Space.failed c.self.inside.space) _ _ c.load_all.ensures.counted
    c.in_err-blocks.ensures.counted)

pub returns-clause-counted : goal.returns-clause-counted
returns-clause-counted g c =
    subst (λ (s : Store). s.failures ≤ failure_count (g.S.Space.failed c.append.new.self))
    (same_store c.self.view_is)
    (both-counted (g.S.Space.failed c.self.inside.space) _ _ c.load_all.ensures.counted
    c.in_ok-blocks.ensures.counted)

pub load_all-requires-clause-backed : goal.load_all-requires-clause-backed
load_all-requires-clause-backed g c =
    let t = c.self.inside.tabled in
    subst (λ (table : List (Option DatEntry)). IsBacked table (g.S.Space.content c.self.inside.space))
    (sym c.as_slice.ensures) (record { sound = t.sound; used = t.used; stored = t.stored })

-- the table has the numbers where the store has them
pub load_all-requires-clause-inside : goal.load_all-requires-clause-inside
load_all-requires-clause-inside g c =
    let old = g.S.Space.content c.self.inside.space in
    subst (λ (at : Partial ℕ). All (λ v. is_inside old.segments c.args.segment (at v) ≡ true) c.args.numbers.now)
    (address_in-store_of c.self.inside.table old (g.S.Space.failed c.self.inside.space)
    c.self.inside.tabled.sound
    ∙ ap (λ (t : List (Option DatEntry)). addresses_of (entry_in t)) (sym c.as_slice.ensures))
    (subst (λ (s : Store).
    All (λ v. is_inside s.segments c.args.segment (address_in s v) ≡ true) c.args.numbers.now)
    (sym (same_store c.self.view_is)) c.requires.inside)
