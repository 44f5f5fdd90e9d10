use Rattle.std.proofs.Common.{refl}
use Rattle.std.proofs.lemmas.Result.{err_from_is_err_and}
use Rattle.nl_manifests.specs.Private.Reading.{many, next_line_at}
use Rattle.nl_manifests.proofs.Loops.{ends, fails, goes_on, is_spent, lines_fail}
use Rattle.nl_manifests.proofs.reading.lines_of.Goals as goal

pub returns-in_err-next_line_of : goal.returns-in_err-next_line_of
returns-in_err-next_line_of c =
    let bytes = c.args.bytes.now in
    let limit = c.args.limit in
    let total = many next_line_at limit bytes in
    let e = c.in_err-next_line_of.field-0.0 in
    let p = err_from_is_err_and c.from_residual.result c.from_residual.ensures.1 in
    rw (p.1, p.2)
    (lines_fail e limit bytes
    (fails next_line_at c.loop.lines limit c.loop.counter c.loop.left.now total c.loop.invariant e
    c.loop-test.true c.in_err-next_line_of.ensures))

pub returns-in-None : goal.returns-in-None
returns-in-None c =
    let bytes = c.args.bytes.now in
    let limit = c.args.limit in
    rw (ends next_line_at c.loop.lines limit c.loop.counter c.loop.left.now (many next_line_at limit bytes)
    c.loop.invariant c.loop-test.true (rw c.in-None.is at c.in_ok-next_line_of.ensures)) refl

pub loop-preserved : goal.loop-preserved
loop-preserved c =
    let bytes = c.args.bytes.now in
    let limit = c.args.limit in
    rw c.in_ok-push-in-Some.ensures.ok
    (goes_on next_line_at c.loop.lines limit c.loop.counter c.loop.left.now (many next_line_at limit bytes)
    c.loop.invariant c.in-Some.line c.in-Some.rest.now c.loop-test.true
    (rw c.in-Some.is at c.in_ok-next_line_of.ensures))

pub returns : goal.returns
returns c =
    let bytes = c.args.bytes.now in
    let limit = c.args.limit in
    rw (is_spent next_line_at c.loop.lines limit c.loop.counter c.loop.left.now (many next_line_at limit
    bytes)
    c.loop.invariant c.loop-test.false) refl
