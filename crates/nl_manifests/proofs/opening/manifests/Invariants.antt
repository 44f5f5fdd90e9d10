use Rattle.std.proofs.Common.{◌≡◌, ◌++◌, drop}
use Rattle.std.specs.List.{flat_map}
use Rattle.nl_manifests.specs.HostTrees.{manifest_for}
use Rattle.nl_manifests.specs.Private.Opening.{manifest_entry, manifests}
use Rattle.nl_manifests.proofs.opening.manifests.Given as goal

abbrev pub invariant-loop-entry : goal.invariant-loop-entry
invariant-loop-entry l =
    l.all ++ flat_map (λ e. manifest_entry e.0 (manifest_for l.tree.all.now e.0 e.1)) (drop l.entry-index l.tree.all.now)
    ≡ manifests l.tree.all.now
