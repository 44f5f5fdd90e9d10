use Rattle.nl_publish.proofs.Running.{back_counts, begins_then, tried_on}
use Rattle.nl_publish.proofs.locked.Locked.begin.Goals as goal

pub returns-clause-begun : goal.returns-clause-begun
returns-clause-begun g c =
    begins_then c.args.self.now c.give_back-begun.new.self c.publish_pending.new.self c.give_back-begun.result
    c.give_back-begun.ensures c.publish_pending.ensures.sent c.publish_pending.ensures.tried

pub returns-clause-tried : goal.returns-clause-tried
returns-clause-tried g c =
    tried_on c.args.self.now c.give_back-begun.new.self c.publish_pending.new.self
    (back_counts c.args.self.now c.give_back-begun.new.self c.give_back-begun.result c.give_back-begun.ensures)
    c.publish_pending.ensures.tried
