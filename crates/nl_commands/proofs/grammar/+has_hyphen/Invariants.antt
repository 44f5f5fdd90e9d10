use Rattle.std.proofs.Common.{length}
use Rattle.nl_commands.proofs.grammar.+has_hyphen.Given as goal

abbrev pub decreases-has_hyphen : goal.decreases-has_hyphen
decreases-has_hyphen l = length l.words.now
