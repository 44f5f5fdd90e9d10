use Rattle.std.proofs.Common.{ℕ, ◌<◌, List, subst, sym}
use Rattle.std.specs.Prelude.{MatchOption}
use Rattle.nl_cpfile.specs.declared.checkpoint.Checkpoint.{Checkpoint}
use Rattle.nl_cpfile.specs.Inside.{table_of}
use Rattle.nl_cpfile.specs.Searching.{IsLeastAbove, NoneAbove}
use Rattle.nl_cpfile.specs.Tables.{RoomyTable, all, kept_numbers}
use Rattle.nl_cpfile.specs.Facts.Found.{earlier-IsRising}
use Rattle.nl_cpfile.proofs.Numbers.{next-above}
use Rattle.nl_cpfile.proofs.table.Checkpoints.first_above.Goals as goal

pub least_above-requires : goal.least_above-requires
least_above-requires c =
    earlier-IsRising (table_of c.self.inside) c.self.invariant c.args.number _ c.as_slice.ensures.value

pub returns : goal.returns
returns c =
    let t = table_of c.self.inside in
    let n = c.args.number in
    let found = c.least_above.result in
    let low : n < t.latest.number =
    subst (λ (r : RoomyTable). n < r.table.latest.number) (sym c.self.view_is) c.requires in
    let judged =
    subst (λ (cs : List Checkpoint).
    MatchOption found (NoneAbove n (kept_numbers cs)) (IsLeastAbove n (kept_numbers cs)))
    c.as_slice.ensures.value c.least_above.ensures in
    let next = next-above n t.earlier t.latest found c.self.invariant.rising low judged in
    subst (λ (r : RoomyTable). IsLeastAbove n (kept_numbers (all r.table)) c.unwrap_or.result) c.self.view_is
    (subst (λ (m : ℕ). IsLeastAbove n (kept_numbers (all t)) m) (sym c.unwrap_or.ensures) next)
