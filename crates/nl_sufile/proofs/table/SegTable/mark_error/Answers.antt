use Rattle.std.proofs.Common.{refl, sym, subst, ◌<◌, length}
use Rattle.nl_types.specs.declared.segment.SegmentInfo.{SegmentInfo}
use Rattle.nl_types.specs.declared.segment.SegmentState.TheVariants.{Error}
use Rattle.nl_types.specs.Blocks.Segments.{Segments, info_of}
use Rattle.nl_sufile.proofs.ActiveSegment.{table_error}
use Rattle.nl_sufile.proofs.table.SegTable.mark_error.Goals as goal

pub invariant_of-self : goal.invariant_of-self
invariant_of-self c =
    let s : Segments = record { blocks = c.self.inside.blocks; each = c.self.inside.each } in
    let within : c.args.segment < length s.each =
    subst (λ (t : Segments). c.args.segment < length t.each) (sym c.self.view_is) c.requires in
    let t = table_error s c.args.segment c.self.invariant.0 within in
    let info : SegmentInfo = record (info_of c.self.inside.each c.args.segment) { state = Error } in
    rw (c.set.ensures.set, c.rest_active.ensures, c.as_slice.ensures, c.get-at.ensures)
    (t.0, t.1, rw c.as_slice-2.ensures at (c.without-clean.ensures info refl))

pub returns-clause-limits : goal.returns-clause-limits
returns-clause-limits c =
    let s : Segments = record { blocks = c.self.inside.blocks; each = c.self.inside.each } in
    let within : c.args.segment < length s.each =
    subst (λ (t : Segments). c.args.segment < length t.each) (sym c.self.view_is) c.requires in
    rw (c.set.ensures.set, c.rest_active.ensures, c.as_slice.ensures, c.get-at.ensures)
    (table_error s c.args.segment c.self.invariant.0 within).0
