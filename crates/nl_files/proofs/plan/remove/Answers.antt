use Rattle.std.proofs.Common.{◌<◌, ◌∙◌, arith}
use Rattle.nl_tree.specs.Facts.Rising.{push-moves}
use Rattle.nl_files.proofs.Merging.{removals-next}
use Rattle.nl_files.proofs.plan.remove.Goals as goal

pub loop-index-preserved : goal.loop-index-preserved
loop-index-preserved c = record {
  empty = λ h.
      absurd (let l : c.loop-index.index < c.args.end = omega arith in
      let e = c.loop-index.invariant.empty h in
      omega (arith, l, e, h));
  all =
      push-moves c.loop-index.changes.items c.push.new.self.items _ _ _ c.in_ok-push.ensures.items
      (removals-next c.loop-index.index c.args.end (omega arith))
      ∙ c.loop-index.invariant.all;
}
