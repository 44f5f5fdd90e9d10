use Rattle.nl_vstore.specs.Facts.BatchLaws.{Fits-none}
use Rattle.nl_vstore.proofs.batch.Batch.new.Goals as goal

pub returns-clause-fits : goal.returns-clause-fits
returns-clause-fits c =
    rw (c.new-births.ensures.items, c.new-ends.ensures.items) (λ capacity content. Fits-none capacity content)
