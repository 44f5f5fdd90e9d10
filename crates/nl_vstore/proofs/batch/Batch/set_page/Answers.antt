use Rattle.std.proofs.Common.{sym, subst}
use Rattle.nl_vstore.specs.Batches.{Changes, CanBeTaken}
use Rattle.nl_vstore.specs.Facts.BatchLaws.{Fits-with_page}
use Rattle.nl_vstore.proofs.batch.Batch.set_page.Goals as goal

pub returns-clause-fits : goal.returns-clause-fits
returns-clause-fits c = λ capacity content fits.
    let P : Changes → Type 0 = CanBeTaken capacity content in
    subst P (sym c.replace_page.ensures)
    (Fits-with_page capacity content c.args.self.now c.args.index c.args.page fits)
