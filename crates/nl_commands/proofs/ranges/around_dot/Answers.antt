use Rattle.nl_commands.proofs.DotParts.{split_is}
use Rattle.nl_commands.proofs.ranges.around_dot.Goals as goal

pub returns : goal.returns
returns c = split_is c.args.word.now c.split_once.result c.split_once.ensures.cases
