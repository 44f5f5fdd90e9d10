use Rattle.std.proofs.Common.{◌≡◌, map}
use Rattle.std.specs.List.{range_with_len}
use Rattle.nl_damage.specs.ImageSums.{digest_of_segment}
use Rattle.nl_damage.proofs.sums.sum.digests_of_segments.Given as goal

abbrev pub invariant-loop-segment : goal.invariant-loop-segment
invariant-loop-segment l =
    l.digests.items ≡ map (digest_of_segment l.image l.front l.size) (range_with_len 0 l.segment)
