use Rattle.std.proofs.Common.{true, ◌≡◌, ℕ, ◌+◌, ◌≤◌, List, Option, sym, ap, subst, ◌∙◌, get_or, length, arith}
use Rattle.std.specs.Prelude.{max, Err}
use Rattle.std.proofs.lemmas.Result.{err_from_is_err_and}
use Rattle.std.proofs.lemmas.List.{length-map}
use Rattle.nl_types.specs.Blocks.Entries.{number_of}
use Rattle.nl_types.specs.Blocks.PartialMaps.{put_each, adjust_all}
use Rattle.nl_types.specs.Facts.PartialMaps.{is_one_of-get_or}
use Rattle.nl_vstore.specs.Content.{Payload}
use Rattle.nl_dat.specs.declared.entries.DatEntry.{DatEntry}
use Rattle.nl_vstore.specs.Batches.{Changes, CanBeTaken, birth_of_item, births_of, items_of, last_number}
use Rattle.nl_dat.specs.Table.{entry_in, new_entry, ended_entry}
use Rattle.nl_vstore.specs.Stores.{Store, IsWritten, IsWriteRefused, IsFaulted, content_in, capacity}
use Rattle.nl_dat.specs.Inside.{store_of}
use Rattle.nl_dat.proofs.Writing.{items_back, table-kept, table-written, is_written, live_inside, is_born_read}
use Rattle.nl_dat.proofs.Refusals.{total-refused, is_faulted, write-refused, writes-counted}
use Rattle.nl_types.specs.Blocks.Segments.{AreTidy, total_blocks}
use Rattle.nl_types.specs.Blocks.Placing as placing
use Rattle.nl_types.specs.Blocks.PlacingLaws.{WhatFitsHasRoom}
use Rattle.nl_device.specs.Failures.{Failures, failure_count}
use Rattle.nl_vstore.specs.Content.{SpaceContent}
use Rattle.nl_vstore.specs.Appended.{IsAppended}
use Rattle.nl_dat.specs.Inside.{IsDatTable}
use Rattle.nl_dat.proofs.FreeNumbers.{numbers-inside}
use Rattle.nl_dat.proofs.StoreOf.{is_store, same_store}
use Rattle.nl_dat.proofs.dat.DatVstore.write.Goals as goal

inside_of : (table : List (Option DatEntry)) (lowest : ℕ) (space later : SpaceContent) (failures : Failures)
    (now c : ℕ) (changes : Changes) (items : List Payload) (at : List ℕ)
    → IsDatTable table lowest space
    → CanBeTaken (total_blocks space.segments) (content_in (store_of table space failures)) changes
    → births_of items ≡ changes.births → WhatFitsHasRoom → AreTidy space.segments
    → IsAppended space later true now c items at → last_number changes.births ≤ total_blocks space.segments
inside_of table lowest space later failures now c changes items at is_table fits items_are has_room tidy
    appended =
    numbers-inside table lowest space failures changes is_table fits has_room tidy true appended.logs
    (subst (λ n. placing.LogsFit space.segments true n appended.logs)
    (sym (length-map items birth_of_item) ∙ ap length items_are) appended.fits)

pub invariant_of-self-inside : goal.invariant_of-self-inside
invariant_of-self-inside g c =
    let old = g.S.Space.content c.self.inside.space in
    let later = g.S.Space.content c.append.new.self in
    let e = c.in_err-numbers.ensures in
    let tabled =
    table-kept c.self.inside.table
    (c.self.inside.filled + 1) old later c.self.inside.tabled e.used_stay e.stays
    (total-refused old later true c.args.now c.args.checkpoint c.births.result.now c.in_err-numbers.field-0.0
    e.errors
    (λ is. ap g.S.Space.content (e.no_space_same (ap Err is)))
    (λ is. ap g.S.Space.content (e.memory_same (ap Err is))) (λ is. e.broken_off (ap Err is))) in (
      is_store c.self.inside.table (c.self.inside.filled + 1) later
          (g.S.Space.failed c.append.new.self) tabled
          (g.met.S.Space.limits c.append.new.self) (g.met.S.Space.whole_logs c.append.new.self)
          (g.met.S.Space.holds_only_used c.append.new.self) (g.met.S.Space.have_logs c.append.new.self),
      (tabled, tt),
    )

pub returns-in_err-numbers-clause-refused : goal.returns-in_err-numbers-clause-refused
returns-in_err-numbers-clause-refused g c =
    let p = err_from_is_err_and c.from_residual.result c.from_residual.ensures.1 in
    let table = c.self.inside.table in
    let old = g.S.Space.content c.self.inside.space in
    let later = g.S.Space.content c.append.new.self in
    let before = g.S.Space.failed c.self.inside.space in
    let after = g.S.Space.failed c.append.new.self in
    let changes = c.args.batch.now in
    let e = c.in_err-numbers.ensures in
    let count : length c.births.result.now ≡ length changes.births =
    sym (length-map c.births.result.now birth_of_item) ∙ ap length c.births.ensures in
    rw (p.1, p.2) (subst
    (λ s.
    IsWriteRefused c.args.checkpoint c.args.now changes s
    (store_of table later after) c.in_err-numbers.field-0.0)
    (same_store c.self.view_is)
    (write-refused c.args.checkpoint c.args.now changes (store_of table old before)
    (store_of table later after) c.in_err-numbers.field-0.0 e.errors
    (λ is. subst (placing.LacksSpace old.segments true) count (e.no_space (ap Err is)))
    (λ is. ap (λ s. store_of table (g.S.Space.content s) (g.S.Space.failed s)) (e.no_space_same (ap Err is)))
    (λ is. ap (λ s. store_of table (g.S.Space.content s) (g.S.Space.failed s)) (e.memory_same (ap Err is)))
    (λ is.
    subst (λ (payload : List Payload).
    IsFaulted true c.args.checkpoint c.args.now payload (store_of table old before)
    (store_of table later after))
    (items_back c.births.result.now ∙ ap items_of c.births.ensures)
    (is_faulted table
    (c.self.inside.filled + 1) old later before after true c.args.now c.args.checkpoint c.births.result.now
    (g.met.S.Space.limits c.self.inside.space).tidy c.self.inside.tabled e.used_stay
    (let fails = e.fault (ap Err is) in omega (arith, fails.0, fails.1)) (e.fault (ap Err is)).1
    (e.broken_off (ap Err is))))))

pub end_entries-requires : goal.end_entries-requires
end_entries-requires g c =
    let ends = c.args.batch.now.ends in
    let fits =
    subst (λ (s : Store). CanBeTaken (capacity s) (content_in s) c.args.batch.now)
    (sym (same_store c.self.view_is)) c.requires in
    rw c.ends.ensures (λ k d within.
    live_inside c.self.inside.table (g.S.Space.content c.self.inside.space)
    (g.S.Space.failed c.self.inside.space) (get_or ends k d)
    (fits.live (get_or ends k d) (is_one_of-get_or ends k d within)))

pub enter_births-requires-clause-inside : goal.enter_births-requires-clause-inside
enter_births-requires-clause-inside g c =
    let births = c.args.batch.now.births in
    let fits =
    subst (λ (s : Store). CanBeTaken (capacity s) (content_in s) c.args.batch.now)
    (sym (same_store c.self.view_is)) c.requires in
    let low =
    inside_of c.self.inside.table (c.self.inside.filled + 1) (g.S.Space.content c.self.inside.space)
    (g.S.Space.content c.append.new.self)
    (g.S.Space.failed c.self.inside.space) c.args.now c.args.checkpoint c.args.batch.now
    c.births.result.now c.in_ok-numbers.numbers.items c.self.inside.tabled fits c.births.ensures
    c.payload_goes_to_unused_blocks.ensures.room
    (g.met.S.Space.limits c.self.inside.space).tidy c.in_ok-numbers.ensures.appended in
    rw (c.births-2.ensures, c.end_entries.ensures.length) (λ k d within.
    let upto : number_of (get_or births k d) ≤ last_number births =
    fits.upto_last _ (is_born_read births k d within) in
    omega (arith, upto, low, c.self.inside.tabled.full))

-- the table behind both changes
both : (checkpoint : ℕ) (changes : Changes) (items : List Payload) (ends at deref : List ℕ)
    (table mid new : List (Option DatEntry))
    → births_of items ≡ changes.births → ends ≡ changes.ends → deref ≡ at
    → entry_in mid ≡ adjust_all (ended_entry checkpoint) ends (entry_in table)
    → entry_in new ≡ put_each number_of (new_entry checkpoint) (births_of items) deref (entry_in mid)
    → entry_in new
    ≡ put_each number_of (new_entry checkpoint) changes.births at
    (adjust_all (ended_entry checkpoint) changes.ends (entry_in table))
both checkpoint changes items ends at deref table mid new births_are ends_are at_is is_mid is_new =
    is_new ∙ ap (λ bs. put_each number_of (new_entry checkpoint) bs deref (entry_in mid)) births_are
    ∙ ap (λ bs. put_each number_of (new_entry checkpoint) changes.births bs (entry_in mid)) at_is
    ∙ ap (put_each number_of (new_entry checkpoint) changes.births at)
    (is_mid ∙ ap (λ ks. adjust_all (ended_entry checkpoint) ks (entry_in table)) ends_are)

pub invariant_of-self-inside-2 : goal.invariant_of-self-inside-2
invariant_of-self-inside-2 g c =
    let old = g.S.Space.content c.self.inside.space in
    let later = g.S.Space.content c.append.new.self in
    let changes = c.args.batch.now in
    let e = c.in_ok-numbers.ensures in
    let fits =
    subst (λ (s : Store). CanBeTaken (capacity s) (content_in s) changes)
    (sym (same_store c.self.view_is)) c.requires in
    let lowest : c.max-self-inside.result + 1
    ≡ max (c.self.inside.filled + 1) (last_number changes.births + 1) =
    omega (arith, c.max-self-inside.ensures, c.get.ensures, c.last_number.ensures) in
    let is_new =
    both c.args.checkpoint changes c.births-2.result.now c.ends.result.now c.in_ok-numbers.numbers.items
    c.deref.result.now c.self.inside.table c.end_entries.new.table c.enter_births.new.table
    c.births-2.ensures c.ends.ensures c.deref.ensures.value c.end_entries.ensures.entries
    c.enter_births.ensures.entries in
    let low =
    inside_of c.self.inside.table (c.self.inside.filled + 1) old later
    (g.S.Space.failed c.self.inside.space) c.args.now c.args.checkpoint changes c.births.result.now
    c.in_ok-numbers.numbers.items c.self.inside.tabled fits c.births.ensures
    c.payload_goes_to_unused_blocks.ensures.room
    (g.met.S.Space.limits c.self.inside.space).tidy e.appended in
    let tabled : IsDatTable c.enter_births.new.table (c.max-self-inside.result + 1) later =
    rw lowest (table-written c.self.inside.table c.enter_births.new.table
    (c.self.inside.filled + 1) old later (g.S.Space.failed c.self.inside.space)
    (g.S.Space.failed c.append.new.self) c.args.checkpoint c.args.now changes c.births.result.now
    c.in_ok-numbers.numbers.items
    c.self.inside.tabled fits c.births.ensures e.appended e.used_stay e.stays is_new
    (c.enter_births.ensures.length ∙ c.end_entries.ensures.length) low) in (
      is_store c.enter_births.new.table (c.max-self-inside.result + 1) later
          (g.S.Space.failed c.append.new.self) tabled (g.met.S.Space.limits c.append.new.self)
          (g.met.S.Space.whole_logs c.append.new.self) (g.met.S.Space.holds_only_used c.append.new.self)
          (g.met.S.Space.have_logs c.append.new.self),
      (tabled, tt),
    )

pub returns-clause-written : goal.returns-clause-written
returns-clause-written g c =
    let old = g.S.Space.content c.self.inside.space in
    let later = g.S.Space.content c.append.new.self in
    let changes = c.args.batch.now in
    let e = c.in_ok-numbers.ensures in
    let fits =
    subst (λ (s : Store). CanBeTaken (capacity s) (content_in s) changes)
    (sym (same_store c.self.view_is)) c.requires in
    let is_new =
    both c.args.checkpoint changes c.births-2.result.now c.ends.result.now c.in_ok-numbers.numbers.items
    c.deref.result.now c.self.inside.table c.end_entries.new.table c.enter_births.new.table
    c.births-2.ensures c.ends.ensures c.deref.ensures.value c.end_entries.ensures.entries
    c.enter_births.ensures.entries in
    let low =
    inside_of c.self.inside.table (c.self.inside.filled + 1) old later
    (g.S.Space.failed c.self.inside.space) c.args.now c.args.checkpoint changes c.births.result.now
    c.in_ok-numbers.numbers.items c.self.inside.tabled fits c.births.ensures
    c.payload_goes_to_unused_blocks.ensures.room
    (g.met.S.Space.limits c.self.inside.space).tidy e.appended in
    subst (λ s.
    IsWritten c.args.checkpoint c.args.now changes s
    (store_of c.enter_births.new.table later (g.S.Space.failed c.append.new.self)))
    (same_store c.self.view_is)
    (is_written c.self.inside.table c.enter_births.new.table (c.self.inside.filled + 1) old later
    (g.S.Space.failed c.self.inside.space)
    (g.S.Space.failed c.append.new.self) c.args.checkpoint c.args.now changes c.births.result.now
    c.in_ok-numbers.numbers.items
    c.self.inside.tabled fits c.births.ensures e.appended e.used_stay e.stays is_new
    (c.enter_births.ensures.length ∙ c.end_entries.ensures.length) low
    (g.met.S.Space.limits c.self.inside.space).tidy e.unfailed)

pub returns-in_err-numbers-clause-counted : goal.returns-in_err-numbers-clause-counted
returns-in_err-numbers-clause-counted g c =
    subst (λ (s : Store). s.failures ≤ failure_count (g.S.Space.failed c.append.new.self))
    (same_store c.self.view_is)
    (writes-counted (g.S.Space.failed c.self.inside.space) _ c.in_err-numbers.ensures.counted)

pub returns-clause-counted : goal.returns-clause-counted
returns-clause-counted g c =
    subst (λ (s : Store). s.failures ≤ failure_count (g.S.Space.failed c.append.new.self))
    (same_store c.self.view_is)
    (writes-counted (g.S.Space.failed c.self.inside.space) _ c.in_ok-numbers.ensures.counted)

-- each birth got a block
pub enter_births-requires-clause-each : goal.enter_births-requires-clause-each
enter_births-requires-clause-each g c =
    sym (length-map c.births-2.result.now birth_of_item)
    ∙ (ap length (c.births-2.ensures ∙ sym c.births.ensures)
    ∙ (length-map c.births.result.now birth_of_item
    ∙ (sym c.in_ok-numbers.ensures.appended.unused_before.count ∙ sym (ap length c.deref.ensures.value))))
