use Rattle.std.proofs.Common.{[], drop}
use Rattle.nl_manifests.specs.Private.Opening.{parts}
use Rattle.nl_manifests.proofs.Putting.{PuttingIfOrdered}
use Rattle.nl_manifests.proofs.opening.put_objects.Given as goal

abbrev pub invariant-loop-entry : goal.invariant-loop-entry
invariant-loop-entry l =
    PuttingIfOrdered [] l.shown.items (parts l.tree.all.now l.all.all.now (drop l.entry-index l.tree.all.now))
    (parts l.tree.all.now l.all.all.now l.tree.all.now)
