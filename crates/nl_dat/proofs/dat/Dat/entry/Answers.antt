use Rattle.std.proofs.Common.{ap, ◌∙◌}
use Rattle.nl_dat.specs.Table.{entry_in, dat_entry_of}
use Rattle.nl_vstore.specs.Stores.{numbered_in}
use Rattle.std.specs.Option.{option_map}
use Rattle.nl_dat.proofs.StoreOf.{entry-store_of, same_store}
use Rattle.nl_dat.proofs.dat.Dat.entry.Goals as goal

pub returns-clause-entry : goal.returns-clause-entry
returns-clause-entry g c =
    c.entry_at.ensures ∙ ap (λ t. entry_in t c.args.number) c.as_slice.ensures
    ∙ entry-store_of c.self.inside.table (g.S.Space.content c.self.inside.space)
    (g.S.Space.failed c.self.inside.space) c.self.inside.tabled.sound c.args.number
    ∙ ap (λ s. option_map dat_entry_of (numbered_in s c.args.number)) (same_store c.self.view_is)
