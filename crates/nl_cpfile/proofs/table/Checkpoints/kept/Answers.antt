use Rattle.std.proofs.Common.{◌∙◌, ap, sym}
use Rattle.nl_cpfile.specs.Inside.{table_of}
use Rattle.nl_cpfile.specs.Tables.{RoomyTable, kept_at}
use Rattle.nl_cpfile.specs.Facts.Found.{earlier-IsRising, kept-earlier, kept-latest, kept-none}
use Rattle.nl_cpfile.proofs.table.Checkpoints.kept.Goals as goal

pub place_of-requires : goal.place_of-requires
place_of-requires c =
    earlier-IsRising
    (table_of c.self.inside) c.self.invariant c.args.number _ c.as_slice-earlier.ensures.value

pub returns-in-Some : goal.returns-in-Some
returns-in-Some c =
    sym (kept-earlier
    (table_of c.self.inside) c.self.invariant c.args.number _ c.in-Some.index _
    c.as_slice-earlier.ensures.value c.in-Some.ensures c.index-earlier-index.is)
    ∙ ap (λ (r : RoomyTable). kept_at c.args.number r.table) c.self.view_is

pub returns-in-None : goal.returns-in-None
returns-in-None c =
    sym (kept-latest
    (table_of c.self.inside) c.self.invariant c.args.number _ c.as_slice-earlier.ensures.value
    c.in-None.ensures
    (sym c.if-eq.ensures))
    ∙ ap (λ (r : RoomyTable). kept_at c.args.number r.table) c.self.view_is

pub returns-in-None-2 : goal.returns-in-None-2
returns-in-None-2 c =
    sym (kept-none (table_of c.self.inside) c.self.invariant c.args.number _ c.as_slice-earlier.ensures.value
    c.in-None.ensures
    (sym c.if-eq.ensures))
    ∙ ap (λ (r : RoomyTable). kept_at c.args.number r.table) c.self.view_is
