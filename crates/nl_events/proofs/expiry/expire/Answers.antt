use Rattle.std.proofs.Common.{◌≡◌, subst, sym}
use Rattle.std.specs.Prelude.{IfOk}
use Rattle.nl_cpfile.specs.Tables.{RoomyTable, without}
use Rattle.nl_events.specs.Facts.ExpiredNumbers.{none, none-removed}
use Rattle.nl_events.proofs.expiry.expire.Goals as goal

pub returns-in-Err-clause-removed : goal.returns-in-Err-clause-removed
returns-in-Err-clause-removed c =
    let old = c.args.kept.now.table in
    let e = c.in-Err.refusal in
    subst (λ r. IfOk r (λ gone. c.remove_range.new.self.table ≡ without gone old))
    (sym c.none_unless_memory.ensures)
    (subst (λ (t : RoomyTable). IfOk (none e) (λ gone. t.table ≡ without gone old))
    (sym c.in-Err.ensures.same) (none-removed e old))
