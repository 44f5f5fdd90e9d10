use Rattle.nl_core.proofs.NextCleaning.{move-next, retire-next}
use Rattle.nl_core.proofs.pen.Pen.cleaning_event.Goals as goal

pub returns-then-count_in-eq0 : goal.returns-then-count_in-eq0
returns-then-count_in-eq0 g c =
    retire-next c.args.self.now c.args.segment c.args.now c.count_in.result c.count_in.ensures
    c.if-count_in-eq0.true

pub returns-else-count_in-eq0 : goal.returns-else-count_in-eq0
returns-else-count_in-eq0 g c =
    move-next c.args.self.now c.args.segment c.args.now c.count_in.result c.count_in.ensures
    c.if-count_in-eq0.false
