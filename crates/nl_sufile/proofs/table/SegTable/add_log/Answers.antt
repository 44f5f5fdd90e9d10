use Rattle.std.proofs.Common.{◌≤◌, ◌<◌, refl, subst, sym, length, arith}
use Rattle.nl_types.specs.declared.segment.SegmentInfo.{SegmentInfo}
use Rattle.nl_types.specs.declared.segment.SegmentState.TheVariants.{Active}
use Rattle.nl_types.specs.Blocks.Segments.{Segments}
use Rattle.nl_types.specs.Blocks.Placing.{end_of}
use Rattle.nl_sufile.proofs.ActiveSegment.{table_active}
use Rattle.nl_sufile.proofs.table.SegTable.add_log.Goals as goal

pub end-used-requires : goal.end-used-requires
end-used-requires c =
    let inside : end_of c.args.log ≤ c.self.inside.blocks =
    subst (λ (s : Segments). end_of c.args.log ≤ s.blocks) (sym c.self.view_is) c.requires.inside in
    omega (arith, inside, c.self.invariant.0.geometry.most_blocks)

pub invariant_of-self : goal.invariant_of-self
invariant_of-self c =
    let s : Segments = record { blocks = c.self.inside.blocks; each = c.self.inside.each } in
    let within : c.args.log.segment < length s.each =
    subst (λ (t : Segments). c.args.log.segment < length t.each)
    (sym c.self.view_is) c.requires.segment in
    let room : end_of c.args.log ≤ s.blocks =
    subst (λ (t : Segments). end_of c.args.log ≤ t.blocks) (sym c.self.view_is) c.requires.inside in
    let t =
    table_active s c.args.log.segment c.args.stamp (end_of c.args.log) c.self.invariant.0 within room in
    let info : SegmentInfo = record { state = Active; stamp = c.args.stamp; used = end_of c.args.log } in
    rw (c.make_active.ensures, c.end-used.ensures)
    (t.0, t.1, rw c.as_slice.ensures at (c.without-clean.ensures info refl))

pub returns-clause-limits : goal.returns-clause-limits
returns-clause-limits c =
    let s : Segments = record { blocks = c.self.inside.blocks; each = c.self.inside.each } in
    let within : c.args.log.segment < length s.each =
    subst (λ (t : Segments). c.args.log.segment < length t.each)
    (sym c.self.view_is) c.requires.segment in
    let room : end_of c.args.log ≤ s.blocks =
    subst (λ (t : Segments). end_of c.args.log ≤ t.blocks) (sym c.self.view_is) c.requires.inside in
    rw (c.make_active.ensures, c.end-used.ensures)
    (table_active s c.args.log.segment c.args.stamp (end_of c.args.log) c.self.invariant.0 within room).0
