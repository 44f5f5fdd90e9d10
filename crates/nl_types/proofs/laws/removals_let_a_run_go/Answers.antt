use Rattle.nl_types.specs.Facts.Needs.{lost-ends, needs-no-more}
use Rattle.nl_types.proofs.laws.removals_let_a_run_go.Goals as goal

pub returns-clause-fewer : goal.returns-clause-fewer
returns-clause-fewer c = needs-no-more

pub returns-clause-run : goal.returns-clause-run
returns-clause-run c = lost-ends
