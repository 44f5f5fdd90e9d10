use Rattle.std.proofs.Common.{sym, subst}
use Rattle.nl_vstore.specs.Batches.{Changes, CanBeTaken, birth_of_item}
use Rattle.nl_vstore.specs.Facts.BatchLaws.{Fits-birth, on_ok}
use Rattle.nl_vstore.proofs.batch.Batch.add_birth.Goals as goal

pub returns-clause-fits : goal.returns-clause-fits
returns-clause-fits c =
    on_ok c.push_birth.result c.push_birth.ensures.ok (λ is capacity content fits fresh low.
    let P : Changes → Type 0 = CanBeTaken capacity content in
    subst P (sym is)
    (Fits-birth capacity content c.args.self.now (birth_of_item (c.args.tag, c.args.page)) fits fresh low))
