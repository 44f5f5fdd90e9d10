use Rattle.std.proofs.Common.{arith}
use Rattle.nl_sufile.proofs.CleanCounts.{count-most}
use Rattle.nl_sufile.proofs.table.SegTable.sustat.Goals as goal

pub overflow_sub-result : goal.overflow_sub-result
overflow_sub-result c =
    omega (arith, c.self.invariant.2.count, count-most 0 c.self.inside.each, c.len-segments.ensures)

pub returns-clause-dirty : goal.returns-clause-dirty
returns-clause-dirty c =
    omega (arith, c.self.invariant.2.count, count-most 0 c.self.inside.each, c.len-segments.ensures)
