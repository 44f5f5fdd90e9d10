use Rattle.nl_types.proofs.DecimalTests.{read-is}
use Rattle.nl_types.proofs.decimals.decimal.Goals as goal

pub returns : goal.returns
returns c = read-is c.digits.result c.args.word.now c.digits.ensures
