use Rattle.std.proofs.Common.{arith}
use Rattle.std.proofs.lemmas.Str.Pattern.{strip_prefix_char}
use Rattle.nl_commands.proofs.DotParts.{strip_is}
use Rattle.nl_commands.proofs.ranges.behind_dot.Goals as goal

pub returns : goal.returns
returns c =
    strip_is c.args.text.now c.strip_prefix.result
    (strip_prefix_char 46 c.args.text.now c.strip_prefix.result c.strip_prefix.ensures.cases (omega arith))
