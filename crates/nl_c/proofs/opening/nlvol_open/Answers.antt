use Rattle.nl_core.specs.Opened.{IsOpenRefusal}
use Rattle.nl_c.specs.Openings.{IsOpenedPen}
use Rattle.nl_c.proofs.Openings.{held_such}
use Rattle.nl_c.proofs.opening.nlvol_open.Goals as goal

pub returns-in-Ok : goal.returns-in-Ok
returns-in-Ok c =
    held_such (IsOpenedPen c.args.image.now) (IsOpenRefusal c.args.image.now) c.args.volume.now.place.held
    c.in-Ok.pen c.hold.result c.hold.new.volume.place.held c.in-Ok.ensures.opened c.hold.ensures
