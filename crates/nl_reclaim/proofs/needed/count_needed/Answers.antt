use Rattle.std.proofs.Common.{◌*◌}
use Rattle.nl_types.specs.Blocks.Entries.{is_needed}
use Rattle.nl_vstore.specs.Located.{needed_at}
use Rattle.nl_vstore.specs.Facts.CountedRows.{counted-next}
use Rattle.nl_reclaim.proofs.needed.count_needed.Goals as goal

pub loop-position-preserved : goal.loop-position-preserved
loop-position-preserved g c =
    let store = g.V.Vstore.store c.args.store.now in
    counted-next (needed_at store (is_needed (g.K.Keeping.kept c.args.keeping.now)))
    (c.args.segment * store.segments.blocks) c.loop-position.position c.loop-position.count
    c.counted-count.result c.needed_number.result
    c.loop-position.invariant c.needed_number.ensures c.counted-count.ensures
