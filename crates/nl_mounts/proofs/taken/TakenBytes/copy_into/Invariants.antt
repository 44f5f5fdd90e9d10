use Rattle.std.proofs.Common.{◌-◌, ◌≤◌}
use Rattle.nl_mounts.specs.Taking.{blocks_of}
use Rattle.nl_mounts.specs.Warming.{AreReadUpTo}
use Rattle.nl_mounts.proofs.taken.TakenBytes.copy_into.Given as goal

abbrev pub invariant-loop-done : goal.invariant-loop-done
invariant-loop-done l = record {
  within : l.done ≤ l.len;
  read : AreReadUpTo l.done (blocks_of l.self.pages) l.self.start l.into;
}

abbrev pub decreases-loop-done : goal.decreases-loop-done
decreases-loop-done l = l.len - l.done
