use Rattle.std.proofs.Common.{◌≡◌, ◌≤◌, ◌-◌, ◌++◌, length, ap, sym, subst, ◌∙◌, arith}
use Rattle.std.specs.Prelude.{replicate}
use Rattle.nl_types.specs.Plain.Limits.{IsGeometry}
use Rattle.nl_types.specs.Blocks.Segments.{Segments, clean_info}
use Rattle.nl_sufile.proofs.ActiveSegment.{table_grown}
use Rattle.nl_sufile.proofs.CleanCounts.{count-most}
use Rattle.nl_sufile.proofs.table.SegTable.grown.Goals as goal

pub with_more-clean-requires : goal.with_more-clean-requires
with_more-clean-requires c =
    let size = ap (λ (s : Segments). length s.each) c.self.view_is in
    omega (
      arith,
      size,
      c.self.invariant.2.count,
      count-most 0 c.self.inside.each,
      c.len.ensures,
      c.requires.more,
      c.requires.limits.most_segments,
    )

pub invariant_of-result : goal.invariant_of-result
invariant_of-result c =
    let law = c.growing_keeps_segments.ensures in
    let s : Segments = record { blocks = c.self.inside.blocks; each = c.self.inside.each } in
    let more : length s.each ≤ c.args.segments =
    subst (λ (t : Segments). length t.each ≤ c.args.segments) (sym c.self.view_is) c.requires.more in
    let limits : IsGeometry c.args.segments s.blocks =
    subst (λ (t : Segments). IsGeometry c.args.segments t.blocks)
    (sym c.self.view_is) c.requires.limits in
    let is =
    table_grown law.infos law.tidy s c.args.segments c.self.inside.active c.self.invariant.0
    c.self.invariant.1 more limits in
    let each : c.in_ok-each.each ≡ s.each ++ replicate (c.args.segments - length s.each) clean_info =
    rw c.as_slice.ensures at c.in_ok-each.ensures in
    rw each (is.0, is.1, rw c.len.ensures at (c.with_more-clean.ensures s.each c.self.invariant.2))
