use Rattle.std.proofs.Common.{arith, refl}
use Rattle.nl_sufile.proofs.CleanCounts.{tells-without_lowest}
use Rattle.nl_sufile.proofs.clean.CleanSegments.without_lowest.Goals as goal

pub returns : goal.returns
returns c =
    tells-without_lowest c.args.each.now c.args.self c.args.segment _ _ c.requires.tells c.requires.lowest
    refl
    (omega (arith, c.get.ensures))
