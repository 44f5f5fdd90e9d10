use Rattle.std.proofs.Common.{ap, subst, true, ◌∙◌}
use Rattle.nl_types.specs.Blocks.Segments.{Segments}
use Rattle.nl_commit.specs.Layout.{IsPen, Layout}
use Rattle.nl_sufile.specs.Room.{HasRoomFor}
use Rattle.nl_events.proofs.Rooms.{has-room}
use Rattle.nl_events.proofs.parts.Parts.room.Goals as goal

pub returns-clause-room : goal.returns-clause-room
returns-clause-room g c =
    has-room c.args.self.now (subst IsPen c.self.view_is c.self.invariant.pen) _ c.in_ok-blocks.ensures.blocks
    (subst (λ (s : Segments). HasRoomFor s true c.room-free.result)
    (c.table.ensures ∙ ap (λ (l : Layout). l.store.segments) c.self.view_is) c.room-free.ensures)
