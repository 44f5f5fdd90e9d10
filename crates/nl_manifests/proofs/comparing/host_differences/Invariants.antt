use Rattle.std.proofs.Common.{◌≡◌, ◌+◌, ◌-◌, ◌≤◌, ◌++◌, drop, length}
use Rattle.nl_manifests.specs.HostDifferences.{differences_by, told_by}
use Rattle.nl_manifests.proofs.comparing.host_differences.Given as goal

abbrev pub invariant-loop-all : goal.invariant-loop-all
invariant-loop-all l = record {
  in_old : l.in_old ≤ length l.old;
  in_new : l.in_new ≤ length l.new;
  told : l.all ++ differences_by (told_by l.of_objects.all.now) (drop l.in_old l.old) (drop l.in_new l.new)
      ≡ differences_by (told_by l.of_objects.all.now) l.old l.new;
}

abbrev pub decreases-loop-all : goal.decreases-loop-all
decreases-loop-all l = (length l.old - l.in_old) + (length l.new - l.in_new)
