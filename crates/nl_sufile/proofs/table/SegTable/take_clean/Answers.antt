use Rattle.std.proofs.Common.{◌<◌, ◌∙◌, length, sym, refl, arith}
use Rattle.nl_types.specs.declared.segment.SegmentInfo.{SegmentInfo}
use Rattle.nl_types.specs.declared.segment.SegmentState.TheVariants.{Active}
use Rattle.nl_types.specs.Blocks.Segments.{Segments, clean_from}
use Rattle.nl_sufile.proofs.ActiveSegment.{lowest_within, table_active}
use Rattle.nl_sufile.proofs.table.SegTable.take_clean.Goals as goal

pub without_lowest-clean-requires-clause-lowest : goal.without_lowest-clean-requires-clause-lowest
without_lowest-clean-requires-clause-lowest c = sym c.lowest.ensures ∙ c.in_ok-segment.was

pub make_active-requires-clause-segment : goal.make_active-requires-clause-segment
make_active-requires-clause-segment c =
    let each = c.as_slice-each.result.now in
    rw c.as_slice-each.ensures at
    (lowest_within each (clean_from 0 each) c.in_ok-segment.segment refl
    (sym c.lowest.ensures ∙ c.in_ok-segment.was))

pub invariant_of-self : goal.invariant_of-self
invariant_of-self c =
    let s : Segments = record { blocks = c.self.inside.blocks; each = c.self.inside.each } in
    let each = c.as_slice-each.result.now in
    let within : c.in_ok-segment.segment < length s.each =
    rw c.as_slice-each.ensures at
    (lowest_within each (clean_from 0 each) c.in_ok-segment.segment refl
    (sym c.lowest.ensures ∙ c.in_ok-segment.was)) in
    let t = table_active s c.in_ok-segment.segment 0 0 c.self.invariant.0 within (omega arith) in
    let info : SegmentInfo = record { state = Active; stamp = 0; used = 0 } in
    rw c.make_active.ensures
    (t.0, t.1, rw c.as_slice-each.ensures at (c.without_lowest-clean.ensures info refl))
