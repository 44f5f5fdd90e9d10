use Rattle.std.proofs.Common.{sym, ap, ◌∙◌}
use Rattle.nl_types.specs.Facts.PartialMaps.{adjust-some}
use Rattle.nl_dat.specs.Table.{entry_in, ended_entry}
use Rattle.nl_dat.proofs.entries.end_entry.Goals as goal

pub returns-in-Some-clause-entries : goal.returns-in-Some-clause-entries
returns-in-Some-clause-entries c =
    c.set_entry.ensures.entries
    ∙ sym (adjust-some (ended_entry c.args.checkpoint)
    (entry_in c.args.table.now) c.args.number c.in-Some.entry
    (ap (λ t. entry_in t c.args.number) (sym c.as_slice.ensures) ∙ sym c.entry_at.ensures ∙ c.in-Some.is))
