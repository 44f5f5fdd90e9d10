use Rattle.std.proofs.Common.{sym, ap, ◌∙◌}
use Rattle.nl_types.specs.Blocks.Roots.{pages_of}
use Rattle.nl_dat.specs.Table.{entry_in}
use Rattle.nl_vstore.specs.Stores.{Store, content_in}
use Rattle.nl_dat.proofs.StoreOf.{page-store_of, same_store}
use Rattle.nl_dat.proofs.dat.DatVRead.page.Goals as goal

pub returns : goal.returns
returns g c =
    let there =
    ap (λ t. entry_in t c.args.number) (sym c.as_slice.ensures) ∙ sym c.entry_at.ensures
    ∙ c.in_ok-entry.was in
    c.page.ensures
    ∙ page-store_of c.self.inside.table (g.S.Space.content c.self.inside.space)
    (g.S.Space.failed c.self.inside.space) c.args.number c.in_ok-entry.entry there
    ∙ ap (λ (s : Store). pages_of (content_in s) c.args.number) (same_store c.self.view_is)
