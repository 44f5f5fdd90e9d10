use Rattle.nl_reclaim.proofs.Calls.{freed-is}
use Rattle.nl_reclaim.proofs.retiring.free_unneeded.Goals as goal

pub returns-clause-answers : goal.returns-clause-answers
returns-clause-answers g c =
    freed-is (g.V.Vstore.store c.args.store.now)
    (g.V.Vstore.store c.reclaim.new.self) c.args.segment c.reclaim.result c.args.needed
    c.requires.store c.if-needed-ne0.false c.reclaim.ensures.reclaimed
