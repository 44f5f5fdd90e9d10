use Rattle.std.proofs.Common.{◌∙◌, ap, sym, arith}
use Rattle.nl_sufile.specs.BySegment.{bit}
use Rattle.nl_sufile.proofs.CleanCounts.{count-some, tells-without}
use Rattle.nl_sufile.proofs.clean.CleanSegments.without.Goals as goal

pub overflow_sub-result : goal.overflow_sub-result
overflow_sub-result c =
    let some =
    count-some c.args.each.now c.args.segment c.requires.segment
    (sym c.is_clean_at.ensures ∙ c.if-is_clean_at.true) in
    omega (arith, some, c.requires.tells.count)

pub returns-then-is_clean_at : goal.returns-then-is_clean_at
returns-then-is_clean_at c =
    let is = sym c.is_clean_at.ensures ∙ c.if-is_clean_at.true in
    let some = count-some c.args.each.now c.args.segment c.requires.segment is in
    tells-without c.args.each.now c.args.self c.args.segment _ c.requires.tells c.requires.segment
    (omega (arith, some, c.requires.tells.count, ap bit is))

pub returns-else-is_clean_at : goal.returns-else-is_clean_at
returns-else-is_clean_at c =
    let is = sym c.is_clean_at.ensures ∙ c.if-is_clean_at.false in
    tells-without c.args.each.now c.args.self c.args.segment c.args.self.count c.requires.tells
    c.requires.segment
    (omega (arith, ap bit is))
