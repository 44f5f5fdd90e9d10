use Rattle.std.proofs.Common.{◌≡◌, ◌++◌, drop}
use Rattle.std.specs.List.{flat_map}
use Rattle.nl_damage.specs.SumTexts.{segment_text}
use Rattle.nl_damage.proofs.sums.printing.put_segments.Given as goal

abbrev pub invariant-loop-digest : goal.invariant-loop-digest
invariant-loop-digest l =
    l.out.items ++ flat_map segment_text (drop l.digest-index l.digests)
    ≡ l.fn.out.items ++ flat_map segment_text l.digests
