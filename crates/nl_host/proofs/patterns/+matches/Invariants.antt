use Rattle.std.proofs.Common.{◌+◌, length}
use Rattle.nl_host.proofs.patterns.+matches.Given as goal

abbrev pub decreases-matches : goal.decreases-matches
decreases-matches l = length l.pattern.now + length l.text.now
