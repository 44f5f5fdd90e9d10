use Rattle.std.proofs.Common.{[], drop}
use Rattle.nl_manifests.specs.Private.Sealing.{EachEndsByLength, sealed_parts}
use Rattle.nl_manifests.proofs.Putting.{PuttingIfOrdered}
use Rattle.nl_manifests.proofs.sealing.put_all.Given as goal

abbrev pub invariant-loop-at : goal.invariant-loop-at
invariant-loop-at l =
    PuttingIfOrdered [] l.sealed.items (sealed_parts (drop l.at l.host)) (sealed_parts l.host)
    × EachEndsByLength (drop l.at l.host)
