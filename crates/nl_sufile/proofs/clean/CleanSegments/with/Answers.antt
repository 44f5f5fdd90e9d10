use Rattle.std.proofs.Common.{◌∙◌, ap, sym, arith}
use Rattle.nl_sufile.specs.BySegment.{bit}
use Rattle.nl_sufile.proofs.CleanCounts.{count-most, tells-with}
use Rattle.nl_sufile.proofs.clean.CleanSegments.with.Goals as goal

pub overflow_add-result : goal.overflow_add-result
overflow_add-result c = omega (arith, c.requires.few, c.requires.tells.count, count-most 0 c.args.each.now)

pub returns-then-is_clean_at : goal.returns-then-is_clean_at
returns-then-is_clean_at c =
    let was = ap bit (sym c.is_clean_at.ensures ∙ c.if-is_clean_at.true) in
    tells-with c.args.each.now c.args.self c.args.segment _ _ c.requires.tells c.requires.segment
    (omega (arith, was)) (omega (arith, c.min-mark.ensures, c.get.ensures))
    (omega (arith, c.min-mark.ensures))

pub returns-else-is_clean_at : goal.returns-else-is_clean_at
returns-else-is_clean_at c =
    let was = ap bit (sym c.is_clean_at.ensures ∙ c.if-is_clean_at.false) in
    tells-with c.args.each.now c.args.self c.args.segment _ _ c.requires.tells c.requires.segment
    (omega (arith, was)) (omega (arith, c.min-mark.ensures, c.get.ensures))
    (omega (arith, c.min-mark.ensures))
