use Rattle.std.proofs.Common.{length}
use Rattle.nl_host.proofs.selection.+are_digits.Given as goal

abbrev pub decreases-are_digits : goal.decreases-are_digits
decreases-are_digits l = length l.text.now
