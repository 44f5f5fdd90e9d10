use Rattle.std.proofs.Common.{◌≡◌, ◌+◌, ◌*◌, None, Option, ap, ◌∙◌, length, replicate}
use Rattle.nl_types.specs.Blocks.Segments.{Segments}
use Rattle.nl_dat.specs.declared.entries.DatEntry.{DatEntry}
use Rattle.nl_dat.proofs.StoreOf.{is_store, store_of-empty, table-empty}
use Rattle.nl_dat.proofs.dat.Dat.new.Goals as goal

pub invariant_of-result : goal.invariant_of-result
invariant_of-result g c =
    let space = g.S.Space.content c.args.space in
    let segments : c.sustat.result.segments ≡ length space.segments.each =
    c.sustat.ensures.segments ∙ ap (λ (s : Segments). length s.each) c.table-table.ensures in
    let blocks : c.blocks-2.result ≡ space.segments.blocks =
    c.blocks-2.ensures.blocks ∙ ap (λ (s : Segments). s.blocks) c.table-table.ensures in
    let tabled =
    table-empty c.in_ok-table.table space
    (c.in_ok-table.ensures
    ∙ ap (λ n. replicate {A = Option DatEntry} (n * c.blocks-2.result + 1) None) segments
    ∙ ap (λ n. replicate {A = Option DatEntry} (length space.segments.each * n + 1) None) blocks) in (
      is_store c.in_ok-table.table 1 space (g.S.Space.failed c.args.space) tabled
          (g.met.S.Space.limits c.args.space) (g.met.S.Space.whole_logs c.args.space)
          (g.met.S.Space.holds_only_used c.args.space) (g.met.S.Space.have_logs c.args.space),
      (tabled, tt),
    )

pub returns-clause-new : goal.returns-clause-new
returns-clause-new g c =
    let space = g.S.Space.content c.args.space in
    let segments : c.sustat.result.segments ≡ length space.segments.each =
    c.sustat.ensures.segments ∙ ap (λ (s : Segments). length s.each) c.table-table.ensures in
    let blocks : c.blocks-2.result ≡ space.segments.blocks =
    c.blocks-2.ensures.blocks ∙ ap (λ (s : Segments). s.blocks) c.table-table.ensures in
    store_of-empty c.in_ok-table.table space (g.S.Space.failed c.args.space)
    (c.in_ok-table.ensures
    ∙ ap (λ n. replicate {A = Option DatEntry} (n * c.blocks-2.result + 1) None) segments
    ∙ ap (λ n. replicate {A = Option DatEntry} (length space.segments.each * n + 1) None) blocks)
