use Rattle.nl_host.proofs.Words.{end_moves}
use Rattle.nl_host.proofs.patterns.without_end.Goals as goal

pub loop-index-preserved : goal.loop-index-preserved
loop-index-preserved c =
    let so_far = c.loop-index.invariant in
    let next =
    end_moves c.args.text.now c.loop-index.index c.loop-index.end c.end_with-end.result c.loop-index-test.true
    (record { within = so_far.within; kept = so_far.kept }) c.end_with-end.ensures in
    record { within = next.within; kept = next.kept }
