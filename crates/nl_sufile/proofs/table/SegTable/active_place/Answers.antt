use Rattle.std.proofs.Common.{◌∙◌, ap, sym, subst}
use Rattle.nl_types.specs.Blocks.Segments.{active_place}
use Rattle.nl_sufile.specs.Table.{IsActiveIn}
use Rattle.nl_sufile.proofs.ActiveSegment.{active_nowhere, active_here}
use Rattle.nl_sufile.proofs.table.SegTable.active_place.Goals as goal

pub returns-in_err-segment : goal.returns-in_err-segment
returns-in_err-segment c =
    let none =
    active_nowhere c.self.inside.each
    (subst (IsActiveIn c.self.inside.each) c.in_err-segment.was c.self.invariant.1) in
    c.from_residual.ensures ∙ sym none ∙ ap active_place c.self.view_is

pub bounds-as_slice-get : goal.bounds-as_slice-get
bounds-as_slice-get c =
    rw (c.get.ensures, c.as_slice.ensures)
    (c.self.invariant.1.there c.in_ok-segment.segment c.in_ok-segment.was).0

pub returns : goal.returns
returns c =
    let here =
    active_here c.self.inside.each c.in_ok-segment.segment
    (subst (IsActiveIn c.self.inside.each) c.in_ok-segment.was c.self.invariant.1) in
    rw (c.get.ensures, c.as_slice.ensures) (sym here ∙ ap active_place c.self.view_is)
