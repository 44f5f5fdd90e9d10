use Rattle.std.proofs.Common.{Some, ap}
use Rattle.nl_damage.proofs.JudgedTables.{judged}
use Rattle.nl_damage.proofs.later.Judged.of_whole.Goals as goal

pub returns : goal.returns
returns c =
    judged c.args.sections.now c.in_ok-tables.tables c.in_ok-tables.ensures _ (ap Some c.is_some.ensures)
    (ap Some c.is_some-2.ensures) c.numbers_judged.ensures c.in_ok-logs_judged.ensures
    c.in_ok-trees_judged.ensures c.zeros_judged.ensures
