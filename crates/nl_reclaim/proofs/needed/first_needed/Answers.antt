use Rattle.std.proofs.Common.{◌*◌}
use Rattle.nl_types.specs.Blocks.Entries.{is_needed}
use Rattle.nl_vstore.specs.Located.{needed_at}
use Rattle.nl_reclaim.proofs.Rows.{seen-next}
use Rattle.nl_reclaim.proofs.needed.first_needed.Goals as goal

pub loop-position-preserved : goal.loop-position-preserved
loop-position-preserved g c =
    let store = g.V.Vstore.store c.args.store.now in
    seen-next (needed_at store (is_needed (g.K.Keeping.kept c.args.keeping.now)))
    (c.args.segment * store.segments.blocks) c.args.limit c.loop-position.position c.loop-position.count
    c.in_ok-count.count c.loop-position.first.items c.noted.new.first.items c.needed_number-found.result
    c.loop-position.invariant c.needed_number-found.ensures c.in_ok-count.ensures.count
    c.in_ok-count.ensures.first
