use Rattle.std.proofs.Common.{◌≡◌, ◌-◌, drop}
use Rattle.nl_manifests.specs.Manifests.{ascend}
use Rattle.nl_manifests.proofs.manifest.ascend.Given as goal

abbrev pub invariant-loop-at : goal.invariant-loop-at
invariant-loop-at l = ascend l.lines ≡ ascend (drop (l.at - 1) l.lines)
