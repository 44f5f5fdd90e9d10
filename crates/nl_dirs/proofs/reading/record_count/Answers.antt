use Rattle.nl_dirs.specs.Private.Stored.{stored}
use Rattle.nl_dirs.proofs.Counting.{all_counted, counted_more, counted_none}
use Rattle.nl_dirs.proofs.reading.record_count.Goals as goal

pub loop-behind-init : goal.loop-behind-init
loop-behind-init c =
    counted_none c.args.page.now c.bytes_of-rest.result.now c.bytes_of-rest.ensures.small
    c.bytes_of-rest.ensures.same

pub loop-behind-preserved : goal.loop-behind-preserved
loop-behind-preserved c =
    counted_more c.args.page.now c.loop-behind.rest.now c.in-Some.behind.now c.loop-behind.count
    (stored c.in-Some.field-0-0) c.loop-behind.invariant c.in-Some.ensures

pub returns : goal.returns
returns c =
    all_counted c.args.page.now c.loop-behind.rest.now c.loop-behind.count c.loop-behind.invariant
    c.in_default.ensures
