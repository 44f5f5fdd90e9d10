use Rattle.std.proofs.Common.{refl}
use Rattle.nl_types.specs.Blocks.Roots.{Pages, pages_of}
use Rattle.nl_vstore.specs.Stores.{content_in}
use Rattle.nl_core.proofs.Closed.{table-sized, table-sizes}
use Rattle.nl_core.proofs.closing.all_entries.Goals as goal

pub entries_of-requires : goal.entries_of-requires
entries_of-requires g c =
    let pages : Pages = pages_of (content_in (g.V.Vstore.store c.args.store.now)) in
    let t = c.args.checkpoints.now.table in
    (table-sizes pages t c.earlier.result.now t.latest c.earlier.ensures.earlier refl c.requires).0

pub sized_entry-requires : goal.sized_entry-requires
sized_entry-requires g c =
    let pages : Pages = pages_of (content_in (g.V.Vstore.store c.args.store.now)) in
    let t = c.args.checkpoints.now.table in
    (table-sizes pages t c.earlier.result.now c.latest.result.now c.earlier.ensures.earlier
    c.latest.ensures.latest c.requires).1

pub returns-clause-entries : goal.returns-clause-entries
returns-clause-entries g c =
    let pages : Pages = pages_of (content_in (g.V.Vstore.store c.args.store.now)) in
    rw c.in_ok-push.ensures.items
    (table-sized pages c.args.checkpoints.now.table c.earlier.result.now c.latest.result.now
    c.in_ok-entries.entries.items c.in_ok-latest.latest
    c.earlier.ensures.earlier c.latest.ensures.latest c.in_ok-entries.ensures.entries
    c.in_ok-latest.ensures.entry)
