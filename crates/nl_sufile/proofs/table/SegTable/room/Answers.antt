use Rattle.nl_types.specs.Blocks.Segments.{Segments}
use Rattle.nl_sufile.proofs.ActiveSegment.{active_inside}
use Rattle.nl_sufile.proofs.table.SegTable.room.Goals as goal

pub room_on-requires-clause-inside : goal.room_on-requires-clause-inside
room_on-requires-clause-inside c =
    let s : Segments = record { blocks = c.self.inside.blocks; each = c.self.inside.each } in
    rw (c.active_place-left.ensures, ← c.self.view_is) (active_inside s c.self.invariant.0)
