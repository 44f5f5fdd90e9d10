use Rattle.std.proofs.Common.{Err, refl}
use Rattle.nl_events.specs.Facts.Outside.{no-segment, payload-outside}
use Rattle.nl_events.proofs.parts.Parts.payload_count.Goals as goal

pub returns-in-Err : goal.returns-in-Err
returns-in-Err g c =
    let store = g.V.Vstore.store c.self.inside.store in
    rw (← c.self.view_is)
    (payload-outside store c.args.segment
    (no-segment store.segments c.table.result.now c.args.segment
    (Err c.in-Err.field-0) c.in-Err.field-0 c.table.ensures refl c.in-Err.ensures.info))
