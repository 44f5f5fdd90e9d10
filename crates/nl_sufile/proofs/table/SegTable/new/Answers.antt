use Rattle.nl_sufile.proofs.ActiveSegment.{table_new}
use Rattle.nl_sufile.proofs.CleanCounts.{tells-new}
use Rattle.nl_sufile.proofs.table.SegTable.new.Goals as goal

pub invariant_of-result : goal.invariant_of-result
invariant_of-result c =
    let t = table_new c.args.geometry in
    rw c.in_ok-each.ensures (t.0, t.1, tells-new c.args.geometry.segments)

pub returns-clause-limits : goal.returns-clause-limits
returns-clause-limits c = rw c.in_ok-each.ensures (table_new c.args.geometry).0
