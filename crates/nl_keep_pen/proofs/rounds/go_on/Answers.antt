use Rattle.nl_keep_pen.proofs.RoundSteps.{turn_same, turn_tidies}
use Rattle.nl_keep_pen.proofs.rounds.go_on.Goals as goal

pub returns-clause-moment : goal.returns-clause-moment
returns-clause-moment g c =
    (turn_same c.args.job.now c.step.new.self c.args.pen.now c.step.new.pen c.step.result c.step.ensures.stepped).0

pub returns-clause-period : goal.returns-clause-period
returns-clause-period g c =
    (turn_same c.args.job.now c.step.new.self c.args.pen.now c.step.new.pen c.step.result c.step.ensures.stepped).1

pub returns-clause-tidies : goal.returns-clause-tidies
returns-clause-tidies g c moment early =
    turn_tidies c.tidying_events_only_tidy.ensures moment c.args.job.now c.step.new.self c.args.pen.now
    c.step.new.pen c.step.result c.requires early c.step.ensures.stepped
