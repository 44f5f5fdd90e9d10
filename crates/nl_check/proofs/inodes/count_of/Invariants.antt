use Rattle.std.proofs.Common.{◌≡◌, ◌+◌, ◌≤◌, drop}
use Rattle.nl_check.specs.Private.Naming.{awaited_count}
use Rattle.nl_check.proofs.inodes.count_of.Given as goal

abbrev pub invariant-loop-kind : goal.invariant-loop-kind
invariant-loop-kind l = record {
  left : l.count + awaited_count (drop l.kind-index l.kinds) ≡ awaited_count l.kinds;
  most : l.count ≤ l.kind-index;
}
