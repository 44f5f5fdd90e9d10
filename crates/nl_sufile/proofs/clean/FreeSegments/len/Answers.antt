use Rattle.std.proofs.Common.{arith, drop, length-drop}
use Rattle.nl_sufile.proofs.CleanCounts.{count-most}
use Rattle.nl_sufile.proofs.clean.FreeSegments.len.Goals as goal

pub returns-clause-few : goal.returns-clause-few
returns-clause-few c =
    let each = c.self.inside.each.now in
    let from = c.self.inside.from in
    omega
    (arith, c.self.invariant.0, c.self.invariant.1, count-most from (drop from each), length-drop from each)
