use Rattle.std.proofs.Common.{◌≡◌, ◌-◌, ◌++◌, ◌<◌}
use Rattle.nl_files.specs.Private.Planned.{removals}
use Rattle.nl_files.proofs.plan.remove.Given as goal

abbrev pub invariant-loop-index : goal.invariant-loop-index
invariant-loop-index l = record {
  empty : l.end < l.first → l.index ≡ l.first;
  all : l.changes.items ++ removals l.index (l.end - l.index)
      ≡ l.fn.changes.items ++ removals l.first (l.end - l.first);
}
