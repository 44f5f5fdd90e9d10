use Rattle.std.proofs.Common.{◌≡◌}
use Rattle.std.specs.Prelude.{filter}
use Rattle.std.specs.List.{range_with_len}
use Rattle.nl_damage.specs.SumComparing.{differs_at}
use Rattle.nl_damage.proofs.sums.comparing.differing.Given as goal

abbrev pub invariant-loop-place : goal.invariant-loop-place
invariant-loop-place l = l.places ≡ filter (differs_at l.one l.other) (range_with_len 0 l.place)
