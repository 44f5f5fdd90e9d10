use Rattle.std.proofs.Common.{arith}
use Rattle.nl_tree.specs.Held.{held_block}
use Rattle.nl_mounts.proofs.Stored.{stored_more}
use Rattle.nl_mounts.proofs.Warming.{put_more, warmed_more}
use Rattle.nl_mounts.proofs.cache.warm_file.Goals as goal

pub returns-in_err-count-clause-stored : goal.returns-in_err-count-clause-stored
returns-in_err-count-clause-stored g c =
    stored_more (g.T.TreeRead.holds c.args.tree.now) c.args.file.now.checkpoint c.args.cache.now
    c.loop-index.cache c.warm_block.new.cache
    c.loop-index.invariant.stored c.warm_block.ensures.stored

pub loop-index-preserved : goal.loop-index-preserved
loop-index-preserved g c =
    let file = c.args.file.now in
    let start = c.args.cache.now in
    let was = c.loop-index.cache in
    let now = c.warm_block.new.cache in
    let kept = c.loop-index.invariant in
    let begun = kept.begun in
    record {
      begun = omega (arith, begun);
      counted =
          let counted = kept.counted in
          let once = c.in_ok-count.ensures.once in
          omega (arith, begun, counted, once);
      warmed_is = λ held h.
          warmed_more c.args.first c.loop-index.index begun
          (held_block (held file.inode)) file.checkpoint file.inode start was now
          (kept.warmed_is held h) (c.in_ok-count.ensures.warmed held h).0;
      put_is = λ held h.
          put_more c.args.first c.loop-index.index begun
          (held_block (held file.inode)) file.checkpoint file.inode start was c.loop-index.count
          c.in_ok-count.field-0 (kept.warmed_is held h) (kept.put_is held h)
          (c.in_ok-count.ensures.warmed held h).1;
      stored =
          stored_more (g.T.TreeRead.holds c.args.tree.now) file.checkpoint start was now kept.stored
          c.warm_block.ensures.stored;
    }
