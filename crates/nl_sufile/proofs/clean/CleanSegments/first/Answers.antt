use Rattle.std.proofs.Common.{ℕ, List, length, take, ap, sym, arith}
use Rattle.nl_sufile.proofs.CleanCounts.{clean-marked}
use Rattle.nl_sufile.proofs.clean.CleanSegments.first.Goals as goal

pub invariant_of-result : goal.invariant_of-result
invariant_of-result c =
    let marked = clean-marked c.args.each.now c.args.self c.requires.tells in (
      omega (arith, c.requires.some, c.requires.tells.count, ap (λ (xs : List ℕ). length xs) marked),
      c.requires.few,
    )

pub returns : goal.returns
returns c =
    ap (λ (xs : List ℕ). take c.args.count xs)
    (sym (clean-marked c.args.each.now c.args.self c.requires.tells))
