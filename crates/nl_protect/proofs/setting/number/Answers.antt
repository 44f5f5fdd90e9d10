use Rattle.nl_protect.proofs.Numerals.{none_read}
use Rattle.nl_protect.proofs.setting.number.Goals as goal

pub returns-in-Err : goal.returns-in-Err
returns-in-Err c = none_read c.args.word.now c.in-Err.ensures.cases.0
