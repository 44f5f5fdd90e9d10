use Rattle.std.proofs.Common.{sym, subst, ◌<◌, length, rules}
use Rattle.nl_types.specs.Blocks.Segments.{Segments}
use Rattle.nl_sufile.proofs.ActiveSegment.{table_clean_other}
use Rattle.nl_sufile.proofs.table.SegTable.mark_clean.Goals as goal

pub invariant_of-self-else-eq : goal.invariant_of-self-else-eq
invariant_of-self-else-eq c =
    let s : Segments = record { blocks = c.self.inside.blocks; each = c.self.inside.each } in
    let within : c.args.segment < length s.each =
    subst (λ (t : Segments). c.args.segment < length t.each) (sym c.self.view_is) c.requires in
    let t =
    table_clean_other s c.args.segment c.self.inside.active c.self.invariant.0 within c.self.invariant.1
    (λ e. let h = rw e at (c.if-eq.ensures) in absurd (search rules)) in
    rw (c.set.ensures.set, c.clean.ensures, c.get.ensures)
    (t.0, t.1, rw c.as_slice.ensures at c.with-clean.ensures)
