use Rattle.std.proofs.Common.{Err, refl}
use Rattle.nl_types.specs.Blocks.Entries.{is_needed}
use Rattle.nl_types.specs.Plain.Protection.{staying_numbers}
use Rattle.nl_cpfile.specs.Tables.{rows}
use Rattle.nl_events.specs.Facts.Outside.{needed-outside, no-segment}
use Rattle.nl_events.proofs.parts.Parts.needed_in.Goals as goal

pub returns-in-Err : goal.returns-in-Err
returns-in-Err g c =
    let store = g.V.Vstore.store c.self.inside.store in
    rw (← c.self.view_is)
    (needed-outside store (is_needed (staying_numbers c.args.below (rows c.self.inside.tables.lists.table)))
    c.args.segment
    (g.met.V.Vstore.is_store c.self.inside.store)
    (no-segment store.segments c.table.result.now c.args.segment
    (Err c.in-Err.field-0) c.in-Err.field-0 c.table.ensures refl c.in-Err.ensures.info))
