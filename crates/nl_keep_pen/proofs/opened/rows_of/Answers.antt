use Rattle.std.proofs.Common.{Ok, ap, ◌∙◌}
use Rattle.nl_keep_pen.proofs.Listed.{rows_are}
use Rattle.nl_keep_pen.proofs.opened.rows_of.Goals as goal

pub returns-in-Rows-clause-rows : goal.returns-in-Rows-clause-rows
returns-in-Rows-clause-rows g c =
    rows_are c.in-Rows.rows c.apply.result c.args.pen.now c.apply.new.self (c.in_ok-other.was ∙ ap Ok c.in-Rows.is)
    c.apply.ensures
