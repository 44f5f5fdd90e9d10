use Rattle.std.proofs.Common.{List, Option, subst, sym}
use Rattle.nl_dat.specs.declared.entries.DatEntry.{DatEntry}
use Rattle.nl_dat.specs.Images.{IsTableOver}
use Rattle.nl_damage.proofs.JudgedTables.{over-of}
use Rattle.nl_damage.proofs.later.logs_judged.Goals as goal

pub has_logs-requires-clause-over : goal.has_logs-requires-clause-over
has_logs-requires-clause-over c =
    let m = c.in-Some-Some in
    subst (λ (table : List (Option DatEntry)). IsTableOver table m.segments) (sym c.as_slice.ensures)
    (over-of c.args.sections.now c.args.tables.now c.requires.read m.segments m.numbers m.is-0 m.is-1)
