use Rattle.std.proofs.Common.{◌≡◌, ◌≤◌, take}
use Rattle.nl_host.specs.Patterns.{without_end}
use Rattle.nl_host.proofs.patterns.without_end.Given as goal

abbrev pub invariant-loop-index : goal.invariant-loop-index
invariant-loop-index l = record {
  within : l.end ≤ l.index;
  kept : take l.end l.text ≡ without_end (take l.index l.text);
}
