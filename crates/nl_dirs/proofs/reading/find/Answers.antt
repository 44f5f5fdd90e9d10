use Rattle.std.proofs.Common.{sym, ◌∙◌}
use Rattle.nl_dirs.specs.Private.Stored.{stored}
use Rattle.nl_dirs.proofs.Holding.{found_at, found_nowhere, not_found-more, not_found-none}
use Rattle.nl_dirs.proofs.reading.find.Goals as goal

pub returns-then-is_same : goal.returns-then-is_same
returns-then-is_same c =
    found_at c.args.page.now c.args.name.now c.loop-record.rest.now c.in-Some.behind.now
    (stored c.in-Some.record) c.loop-record.invariant c.in-Some.ensures
    (sym c.is_same.ensures ∙ c.if-is_same.true)

pub loop-record-preserved : goal.loop-record-preserved
loop-record-preserved c =
    not_found-more c.args.page.now c.args.name.now c.loop-record.rest.now c.in-Some.behind.now
    (stored c.in-Some.record) c.loop-record.invariant c.in-Some.ensures
    (sym c.is_same.ensures ∙ c.if-is_same.false)

pub returns : goal.returns
returns c =
    found_nowhere c.args.page.now c.args.name.now c.loop-record.rest.now c.loop-record.invariant
    c.in_default.ensures

pub loop-record-init : goal.loop-record-init
loop-record-init c =
    not_found-none c.args.page.now c.args.name.now c.bytes_of-rest.result.now c.bytes_of-rest.ensures.small
    c.bytes_of-rest.ensures.same
