use Rattle.std.proofs.Common.{length}
use Rattle.nl_commands.proofs.help.+write_lines.Given as goal

abbrev pub decreases-write_lines : goal.decreases-write_lines
decreases-write_lines l = length l.lines.now
