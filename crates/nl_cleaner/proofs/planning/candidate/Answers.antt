use Rattle.std.proofs.Common.{Err, refl}
use Rattle.nl_events.specs.Facts.Outside.{no-segment}
use Rattle.nl_cleaner.proofs.Victims.{candidate-outside}
use Rattle.nl_cleaner.proofs.planning.candidate.Goals as goal

pub returns-in-Err : goal.returns-in-Err
returns-in-Err g c = λ below _.
    candidate-outside c.args.pen.now below c.args.least c.args.segment
    (no-segment c.args.pen.now.store.segments c.segments.result.now c.args.segment
    (Err c.in-Err.field-0) c.in-Err.field-0
    c.segments.ensures refl c.in-Err.ensures.info)
