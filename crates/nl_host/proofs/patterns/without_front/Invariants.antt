use Rattle.std.proofs.Common.{◌≡◌, drop}
use Rattle.nl_host.specs.Patterns.{without_front}
use Rattle.nl_host.proofs.patterns.without_front.Given as goal

abbrev pub invariant-loop-index : goal.invariant-loop-index
invariant-loop-index l = without_front (drop l.index l.text) ≡ without_front l.text
