use Rattle.std.proofs.Common.{◌∙◌, ap, take}
use Rattle.nl_vstore.specs.Batches.{Changes, births_of}
use Rattle.nl_vstore.specs.Facts.BatchLaws.{births_of-take}
use Rattle.nl_vstore.proofs.batch.Batch.truncate.Goals as goal

pub returns-clause-births : goal.returns-clause-births
returns-clause-births c =
    ap births_of c.truncate.ensures.items
    ∙ (births_of-take c.self.inside.births.items c.args.births
    ∙ ap (λ (x : Changes). take c.args.births x.births) c.self.view_is)
