use Rattle.std.proofs.Common.{length}
use Rattle.nl_commands.proofs.help.+write_forms.Given as goal

abbrev pub decreases-write_forms : goal.decreases-write_forms
decreases-write_forms l = length l.forms.now
