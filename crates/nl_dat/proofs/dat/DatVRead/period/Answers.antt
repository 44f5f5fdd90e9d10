use Rattle.std.proofs.Common.{Some, sym, ap, ◌∙◌}
use Rattle.std.specs.Option.{option_map}
use Rattle.nl_dat.specs.Table.{entry_in}
use Rattle.nl_types.specs.Blocks.Entries.{period_of}
use Rattle.nl_vstore.specs.Stores.{content_in}
use Rattle.nl_dat.proofs.StoreOf.{period-store_of, same_store}
use Rattle.nl_dat.proofs.dat.DatVRead.period.Goals as goal

pub returns : goal.returns
returns g c =
    let table = c.self.inside.table in
    let there =
    ap (λ t. entry_in t c.args.number) (sym c.as_slice.ensures) ∙ sym c.entry_at.ensures
    ∙ c.in_ok-entry.was in
    ap Some c.period.ensures
    ∙ period-store_of table (g.S.Space.content c.self.inside.space)
    (g.S.Space.failed c.self.inside.space) c.self.inside.tabled.sound c.args.number c.in_ok-entry.entry
    there
    ∙ ap (λ s. option_map period_of (content_in s c.args.number)) (same_store c.self.view_is)
