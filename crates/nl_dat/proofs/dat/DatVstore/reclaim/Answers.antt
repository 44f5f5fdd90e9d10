use Rattle.std.proofs.Common.{◌≡◌, ◌<◌, ℕ, ◌+◌, ◌*◌, ◌≤◌, Some, List, Option, ap, sym, subst, ◌∙◌, length, arith}
use Rattle.std.proofs.Math.Nat.{mul-le-mul_right}
use Rattle.nl_types.specs.Blocks.Segments.{Segments, info_of}
use Rattle.nl_types.specs.Facts.SegmentChanges.{room_of}
use Rattle.nl_device.specs.Failures.{failure_count}
use Rattle.nl_vstore.specs.Content.{SpaceContent}
use Rattle.nl_dat.specs.declared.entries.DatEntry.{DatEntry}
use Rattle.nl_dat.specs.declared.reclaim.TakenOut.{TakenOut}
use Rattle.nl_dat.specs.Table.{entry_in, addresses_of}
use Rattle.nl_vstore.specs.Stores.{IsReclaimed, Store}
use Rattle.nl_dat.specs.Inside.{births_in, store_of}
use Rattle.nl_dat.specs.TakenOut.{HasTakenOut}
use Rattle.nl_dat.proofs.SoundTable.{HaveOwnPayload-apart}
use Rattle.nl_dat.specs.Facts.Positions.{tagged-row}
use Rattle.nl_dat.proofs.Reclaiming.{table-reclaimed, is_reclaimed}
use Rattle.nl_dat.proofs.Refusals.{writes-counted}
use Rattle.nl_dat.proofs.StoreOf.{is_store, same_store}
use Rattle.nl_dat.proofs.dat.DatVstore.reclaim.Goals as goal

-- the row of a segment begins at its first block
first_of : (space : SpaceContent) (lent : Segments) (segment read blocks : ℕ) → read ≡ segment
    → blocks ≡ lent.blocks → lent ≡ space.segments → read * blocks ≡ segment * space.segments.blocks
first_of space lent segment read blocks read_is blocks_is lent_is =
    ap (λ n. n * blocks) read_is ∙ ap (λ n. segment * n) (blocks_is ∙ ap (λ (s : Segments). s.blocks) lent_is)

-- what was taken out, by the first block and the length of the row
taken_from : (first other count used : ℕ) (old new : List (Option DatEntry)) (taken : TakenOut)
    → first ≡ other → count ≡ used → HasTakenOut first count old new taken
    → HasTakenOut other used old new taken
taken_from first other count used old new taken at as_many h =
    subst (λ n. HasTakenOut other n old new taken) as_many
    (subst (λ f. HasTakenOut f count old new taken) at h)

pub take_out-taken-requires-clause-apart : goal.take_out-taken-requires-clause-apart
take_out-taken-requires-clause-apart g c = λ v w b at_v at_w.
    HaveOwnPayload-apart (addresses_of (entry_in c.self.inside.table))
    (births_in (g.S.Space.content c.self.inside.space)) v w b c.self.inside.tabled.sound at_v at_w

pub take_out-taken-requires-clause-tagged : goal.take_out-taken-requires-clause-tagged
take_out-taken-requires-clause-tagged g c = λ k v within at.
    let space = g.S.Space.content c.self.inside.space in
    let tidy = (g.met.S.Space.limits c.self.inside.space).tidy in
    let first =
    first_of space c.table-segments.result.now c.args.segment c.get.result c.blocks-2.result c.get.ensures
    c.blocks-2.ensures.blocks c.table-segments.ensures in
    let room : (info_of space.segments.each c.args.segment).used ≤ space.segments.blocks =
    room_of space.segments.blocks space.segments.each tidy.each c.args.segment in
    tagged-row c.self.inside.table
    (c.self.inside.filled + 1) space c.summary-row.result.now c.args.segment k v tidy c.self.inside.tabled
    c.summary-row.ensures.count c.summary-row.ensures.each
    (omega (arith, within, c.summary-row.ensures.count, room)) (at ∙ ap (λ n. Some (n + k)) first)

pub invariant_of-self-inside : goal.invariant_of-self-inside
invariant_of-self-inside g c =
    let old = g.S.Space.content c.self.inside.space in
    let later = g.S.Space.content c.free.new.self in
    let tidy = (g.met.S.Space.limits c.self.inside.space).tidy in
    let first =
    first_of old c.table-segments.result.now c.args.segment c.get.result c.blocks-2.result c.get.ensures
    c.blocks-2.ensures.blocks c.table-segments.ensures in
    let out =
    taken_from (c.get.result * c.blocks-2.result) (c.args.segment * old.segments.blocks)
    (length c.summary-row.result.now)
    (info_of old.segments.each c.args.segment).used c.self.inside.table c.take_out-taken.new.table
    c.take_out-taken.result first c.summary-row.ensures.count c.take_out-taken.ensures in
    let tabled =
    table-reclaimed c.self.inside.table c.take_out-taken.new.table c.self.inside.filled
    c.filled_after-self-inside.result c.args.segment old later
    (g.S.Space.failed c.self.inside.space) (g.S.Space.failed c.free.new.self) c.take_out-taken.result
    c.self.inside.tabled tidy c.free.ensures.freed out c.filled_after-self-inside.ensures.most
    c.filled_after-self-inside.ensures.below in (
      is_store c.take_out-taken.new.table (c.filled_after-self-inside.result + 1) later
          (g.S.Space.failed c.free.new.self) tabled (g.met.S.Space.limits c.free.new.self)
          (g.met.S.Space.whole_logs c.free.new.self) (g.met.S.Space.holds_only_used c.free.new.self)
          (g.met.S.Space.have_logs c.free.new.self),
      (tabled, tt),
    )

pub returns-clause-reclaimed : goal.returns-clause-reclaimed
returns-clause-reclaimed g c =
    let old = g.S.Space.content c.self.inside.space in
    let later = g.S.Space.content c.free.new.self in
    let tidy = (g.met.S.Space.limits c.self.inside.space).tidy in
    let first =
    first_of old c.table-segments.result.now c.args.segment c.get.result c.blocks-2.result c.get.ensures
    c.blocks-2.ensures.blocks c.table-segments.ensures in
    let out =
    taken_from (c.get.result * c.blocks-2.result) (c.args.segment * old.segments.blocks)
    (length c.summary-row.result.now)
    (info_of old.segments.each c.args.segment).used c.self.inside.table c.take_out-taken.new.table
    c.take_out-taken.result first c.summary-row.ensures.count c.take_out-taken.ensures in
    subst (λ s.
    IsReclaimed c.args.segment c.take_out-taken.result.count s
    (store_of c.take_out-taken.new.table later (g.S.Space.failed c.free.new.self)))
    (same_store c.self.view_is)
    (is_reclaimed c.self.inside.table c.take_out-taken.new.table c.self.inside.filled
    c.filled_after-self-inside.result c.args.segment old later
    (g.S.Space.failed c.self.inside.space) (g.S.Space.failed c.free.new.self) c.take_out-taken.result
    c.self.inside.tabled tidy c.free.ensures.freed out c.filled_after-self-inside.ensures.most
    c.filled_after-self-inside.ensures.below)

pub take_out-taken-requires-clause-fits : goal.take_out-taken-requires-clause-fits
take_out-taken-requires-clause-fits g c =
    let space = g.S.Space.content c.self.inside.space in
    let limits = g.met.S.Space.limits c.self.inside.space in
    let first =
    first_of space c.table-segments.result.now c.args.segment c.get.result c.blocks-2.result c.get.ensures
    c.blocks-2.ensures.blocks c.table-segments.ensures in
    let room : (info_of space.segments.each c.args.segment).used ≤ space.segments.blocks =
    room_of space.segments.blocks space.segments.each limits.tidy.each c.args.segment in
    let within : c.args.segment < length space.segments.each =
    subst (λ (s : Store). c.args.segment < length s.segments.each) (sym (same_store c.self.view_is))
    c.requires in
    let all : (c.args.segment + 1) * space.segments.blocks
    ≤ length space.segments.each * space.segments.blocks =
    mul-le-mul_right space.segments.blocks (omega (arith, within)) in
    omega (arith, first, c.summary-row.ensures.count, room, all, limits.geometry.most)

pub returns-clause-counted : goal.returns-clause-counted
returns-clause-counted g c =
    subst (λ (s : Store). s.failures ≤ failure_count (g.S.Space.failed c.free.new.self))
    (same_store c.self.view_is)
    (writes-counted (g.S.Space.failed c.self.inside.space) _ c.free.ensures.counted)
