use Rattle.nl_c.specs.Openings.{IsMemoryOrFault, IsNewPen}
use Rattle.nl_c.proofs.Openings.{held_such}
use Rattle.nl_c.proofs.opening.hold_new.Goals as goal

pub returns-in-Ok : goal.returns-in-Ok
returns-in-Ok c =
    held_such (IsNewPen c.args.geometry c.args.moment) IsMemoryOrFault c.args.volume.now.place.held c.in-Ok.pen
    c.hold.result c.hold.new.volume.place.held c.in-Ok.ensures.made c.hold.ensures
