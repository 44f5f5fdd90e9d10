use Rattle.std.proofs.Common.{◌≡◌, replicate, None}
use Rattle.nl_types.proofs.places.empty_places.Given as goal

abbrev pub invariant-loop : goal.invariant-loop
invariant-loop g l = l.places.items ≡ replicate l.counter None
