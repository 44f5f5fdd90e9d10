use Rattle.std.proofs.Common.{◌≤◌, ◌-◌}
use Rattle.nl_folders.specs.Private.Agreeing.{AgreeOn}
use Rattle.nl_folders.proofs.paths.shared_names.Given as goal

abbrev pub invariant-loop-shared : goal.invariant-loop-shared
invariant-loop-shared l =
    (l.shared ≤ l.most) × (AgreeOn l.from l.a l.b → AgreeOn l.shared l.a l.b)

abbrev pub decreases-loop-shared : goal.decreases-loop-shared
decreases-loop-shared l = l.most - l.shared
