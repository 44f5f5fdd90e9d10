use Rattle.nl_keep_pen.proofs.RoundSteps.{resize_tidies}
use Rattle.nl_keep_pen.proofs.room.resize.Goals as goal

pub returns-clause-tidies : goal.returns-clause-tidies
returns-clause-tidies g c moment =
    resize_tidies c.tidying_events_only_tidy.ensures moment c.args.segments c.apply.result c.args.pen.now
    c.apply.new.self c.apply.ensures
