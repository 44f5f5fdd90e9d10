use Rattle.nl_vstore.specs.Facts.CountedRows.{row-next}
use Rattle.nl_dat.proofs.moving.count_payload.Goals as goal

pub loop-position-preserved : goal.loop-position-preserved
loop-position-preserved c =
    row-next c.args.row.now c.loop-position.position c.loop-position.count c.counted-count.result
    c.loop-position.invariant c.counted-count.ensures
