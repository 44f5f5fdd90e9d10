use Rattle.std.proofs.Common.{refl}
use Rattle.nl_sufile.proofs.Room.{has-room-on}
use Rattle.nl_sufile.proofs.placing.room_on.Goals as goal

pub returns : goal.returns
returns c =
    has-room-on c.args.blocks c.args.left c.args.free _ c.requires.few
    (rw (c.payload_left-in_active.ensures.value, c.payload_in-in_each.ensures, c.len.ensures.count) refl)
