use Rattle.std.proofs.Common.{◌∙◌, refl, arith}
use Rattle.std.proofs.lemmas.List.{take_all}
use Rattle.nl_types.specs.Blocks.Segments.{clean_from}
use Rattle.nl_sufile.proofs.table.SegTable.free_segments.Goals as goal

pub returns-then-reserve : goal.returns-then-reserve
returns-then-reserve c =
    rw (c.if-reserve.true, ← c.self.view_is)
    (c.first.ensures
    ∙ rw (c.as_slice-each.ensures, c.saturating_sub.ensures, c.self.invariant.2.count) refl)

pub returns-else-reserve : goal.returns-else-reserve
returns-else-reserve c =
    rw (c.if-reserve.false, ← c.self.view_is)
    (c.first-else-reserve.ensures
    ∙ rw c.as_slice-each.ensures
    (take_all c.self.inside.clean.count (clean_from 0 c.self.inside.each)
    (omega (arith, c.self.invariant.2.count))))
