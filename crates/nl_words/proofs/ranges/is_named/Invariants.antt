use Rattle.std.proofs.Common.{◌≡◌, drop}
use Rattle.nl_words.specs.Ranges.{is_named}
use Rattle.nl_words.proofs.ranges.is_named.Given as goal

abbrev pub invariant-loop-range : goal.invariant-loop-range
invariant-loop-range l = is_named l.ranges l.number ≡ is_named (drop l.range-index l.ranges) l.number
