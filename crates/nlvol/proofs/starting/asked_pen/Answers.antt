use Rattle.std.proofs.Common.{refl}
use Rattle.nlvol.specs.Beginnings.{New}
use Rattle.nlvol.proofs.starting.asked_pen.Goals as goal

pub returns-in-Ok-new_pen-clause-begun : goal.returns-in-Ok-new_pen-clause-begun
returns-in-Ok-new_pen-clause-begun c = record {
  beginning = New c.in-Ok.geometry;
  asked = record {
    no_image = c.requires;
    segments = c.in-Ok.ensures.made.0;
    blocks = c.in-Ok.ensures.made.1;
    within = c.in-Ok.ensures.within.0 refl;
  };
  pen = c.in-Ok-new_pen.ensures.made;
}
