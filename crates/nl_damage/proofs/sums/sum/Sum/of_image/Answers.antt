use Rattle.std.proofs.Common.{Some, ap}
use Rattle.nl_damage.specs.declared.sums.sum.Sum.{Sum}
use Rattle.nl_damage.proofs.SumsOfImages.{image_sum, too_many}
use Rattle.nl_damage.proofs.sums.sum.Sum.of_image.Goals as goal

pub returns-in-None-clause-only : goal.returns-in-None-clause-only
returns-in-None-clause-only c it is =
    absurd (too_many c.args.image.now it c.in-None.ensures.none is)

pub returns-in_ok-sum-in-Some-clause-only : goal.returns-in_ok-sum-in-Some-clause-only
returns-in_ok-sum-in-Some-clause-only c it is =
    ap (λ (s : Sum). Some s)
    (image_sum c.args.image.now c.in-Some.sections c.of.result c.in_ok-sum-in-Some.sum it c.in-Some.ensures.image
    c.in-Some.ensures.only c.of.ensures.only c.in_ok-sum-in-Some.ensures is)
