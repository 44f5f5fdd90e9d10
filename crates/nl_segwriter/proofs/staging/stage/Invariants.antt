use Rattle.std.proofs.Common.{◌≡◌, ◌++◌, List, length, drop}
use Rattle.nl_types.specs.Blocks.Placing.{payload_count}
use Rattle.nl_segwriter.specs.declared.staging.Staged.{Staged}
use Rattle.nl_segwriter.specs.Private.Staging.{AreStaged, AreSized}
use Rattle.nl_segwriter.proofs.staging.stage.Given as goal

abbrev pub invariant-loop-log : goal.invariant-loop-log
invariant-loop-log l = record {
  sized : AreSized (drop l.log-index l.logs);
  count : payload_count (drop l.log-index l.logs) ≡ length l.rest;
  onward : (more : List Staged) → AreStaged l.stamp l.fn.checkpoint (drop l.log-index l.logs) l.rest more
      → AreStaged l.stamp l.fn.checkpoint l.logs l.items (l.all.items ++ more);
}
