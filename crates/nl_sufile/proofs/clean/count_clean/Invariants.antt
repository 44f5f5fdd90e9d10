use Rattle.std.proofs.Common.{◌≡◌, ◌≤◌, ◌+◌, drop, length}
use Rattle.nl_types.specs.Blocks.Segments.{clean_from}
use Rattle.nl_sufile.proofs.clean.count_clean.Given as goal

abbrev pub invariant-loop-info : goal.invariant-loop-info
invariant-loop-info l =
    (l.count + length (clean_from l.info-index (drop l.info-index l.each)) ≡ length (clean_from 0 l.each))
    × (l.count ≤ l.info-index)
