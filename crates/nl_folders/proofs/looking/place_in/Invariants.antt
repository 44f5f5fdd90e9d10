use Rattle.std.proofs.Common.{◌-◌}
use Rattle.nl_folders.specs.Private.Looking.{IsBetween}
use Rattle.nl_folders.proofs.looking.place_in.Given as goal

abbrev pub invariant-loop-span : goal.invariant-loop-span
invariant-loop-span g l = IsBetween l.entries l.path l.span

abbrev pub decreases-loop-span : goal.decreases-loop-span
decreases-loop-span g l = l.span.high - l.span.low
