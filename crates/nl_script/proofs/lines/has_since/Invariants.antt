use Rattle.std.proofs.Common.{◌≡◌, drop}
use Rattle.std.specs.List.{list_any}
use Rattle.nl_script.specs.Lines.{is_since}
use Rattle.nl_script.proofs.lines.has_since.Given as goal

-- none so far is open
abbrev pub invariant-loop-range : goal.invariant-loop-range
invariant-loop-range l = list_any is_since (drop l.range-index l.ranges) ≡ list_any is_since l.ranges
