use Rattle.std.proofs.Common.{refl, subst, arith, length, ◌≡◌}
use Rattle.nl_cpfile.specs.Facts.ImageEntries.{AreRisingBelow, all_rise}
use Rattle.nl_cpfile.proofs.images.are_rising.Goals as goal

pub returns : goal.returns
returns c =
    let all : c.loop-i.i ≡ length c.args.kept.now = omega arith in
    (λ _. all_rise c.args.kept.now (subst (AreRisingBelow c.args.kept.now) all c.loop-i.invariant), λ _. refl)
