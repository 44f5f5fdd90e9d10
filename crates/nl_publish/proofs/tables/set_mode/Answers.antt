use Rattle.nl_publish.proofs.Following.{with_mode-answered}
use Rattle.nl_publish.proofs.tables.set_mode.Goals as goal

pub returns : goal.returns
returns c =
    with_mode-answered c.set_mode.result c.args.number c.args.mode c.args.checkpoints.now c.set_mode.new.self
    c.set_mode.ensures.judged c.set_mode.ensures.changed c.set_mode.ensures.same
