use Rattle.std.proofs.Common.{◌*◌, ◌+◌, arith}
use Rattle.nl_manifests.proofs.Digits.{digit_fits, digits_fit}
use Rattle.nl_manifests.proofs.fields.+digits_of.Goals as goal

pub overflow_mul-result : goal.overflow_mul-result
overflow_mul-result t c =
    let front = c.in_ok-front.front in
    let last = c.in_ok-last.last in
    let below = digit_fits front last c.args.base c.args.width c.in_ok-front.ensures.below
    c.in_ok-last.ensures.below c.requires.base c.if-width-eq0.false in
    omega (arith, digits_fit (front * c.args.base + last) c.args.width below c.requires.width)

pub overflow_add-result : goal.overflow_add-result
overflow_add-result t c =
    let front = c.in_ok-front.front in
    let last = c.in_ok-last.last in
    let below = digit_fits front last c.args.base c.args.width c.in_ok-front.ensures.below
    c.in_ok-last.ensures.below c.requires.base c.if-width-eq0.false in
    omega (arith, digits_fit (front * c.args.base + last) c.args.width below c.requires.width)

pub returns-clause-below : goal.returns-clause-below
returns-clause-below t c =
    digit_fits c.in_ok-front.front c.in_ok-last.last c.args.base c.args.width c.in_ok-front.ensures.below
    c.in_ok-last.ensures.below c.requires.base c.if-width-eq0.false
