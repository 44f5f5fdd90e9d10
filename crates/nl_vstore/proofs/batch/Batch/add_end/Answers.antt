use Rattle.std.proofs.Common.{sym, subst}
use Rattle.nl_vstore.specs.Batches.{Changes, CanBeTaken}
use Rattle.nl_vstore.specs.Facts.BatchLaws.{Fits-end, on_ok}
use Rattle.nl_vstore.proofs.batch.Batch.add_end.Goals as goal

pub returns-clause-fits : goal.returns-clause-fits
returns-clause-fits c = on_ok c.push_end.result c.push_end.ensures.ok (λ is capacity content fits live.
    let P : Changes → Type 0 = CanBeTaken capacity content in
    subst P (sym is) (Fits-end capacity content c.args.self.now c.args.number fits live))
