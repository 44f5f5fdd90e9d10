use Rattle.nl_commit.specs.CleaningEvents.{needed_by}
use Rattle.nl_events.specs.Facts.CountedPens.{told-count, told-none}
use Rattle.nl_events.specs.Facts.Outside.{needed-outside}
use Rattle.nl_core.proofs.pen.Pen.count_in.Goals as goal

pub returns-in-Ok : goal.returns-in-Ok
returns-in-Ok g c =
    let l = c.args.self.now in
    (told-count l.store (needed_by l.lists) c.args.segment c.in-Ok.count c.in-Ok.ensures).1

pub returns-in-Err : goal.returns-in-Err
returns-in-Err g c =
    let l = c.args.self.now in
    needed-outside l.store (needed_by l.lists) c.args.segment c.means_a_world.ensures.sound.store
    (told-none l.store (needed_by l.lists) c.args.segment c.in-Err.field-0 c.in-Err.ensures).0
