use Rattle.std.proofs.Common.{◌∙◌}
use Rattle.std.proofs.lemmas.Result.{err_from_is_err_and}
use Rattle.nl_tree.specs.Held.{inodes_of_holding}
use Rattle.nl_tree.proofs.Walking.{walk-last, walk-more, walk-refused}
use Rattle.nl_tree.proofs.paths.walk.Goals as goal

pub returns-in_err-at : goal.returns-in_err-at
returns-in_err-at g c = λ held h.
    let given = err_from_is_err_and c.from_residual.result c.from_residual.ensures.1 in
    rw (given.1, given.2)
    (walk-refused (inodes_of_holding held) c.args.from c.loop-name.at c.args.names.now c.loop-name.rest.now
    (c.loop-name.invariant held h)
    c.in-Some.name.now c.in-Some.behind.now c.in_err-at.field-0.0 c.in-Some.ensures
    (c.in_err-at.ensures held h))

pub loop-name-preserved : goal.loop-name-preserved
loop-name-preserved g c = λ held h.
    walk-more (inodes_of_holding held) c.args.from c.loop-name.at c.args.names.now c.loop-name.rest.now
    (c.loop-name.invariant held h)
    c.in-Some.name.now c.in-Some.behind.now c.in_ok-at.at c.in-Some.ensures (c.in_ok-at.ensures held h)

pub returns : goal.returns
returns g c = λ held h.
    c.step-2.ensures held h
    ∙ walk-last (inodes_of_holding held) c.args.from c.loop-name.at c.args.names.now c.loop-name.rest.now
    (c.loop-name.invariant held h) c.in_default.ensures
