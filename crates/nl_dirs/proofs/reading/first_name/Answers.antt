use Rattle.std.proofs.Common.{◌≡◌, List, ℕ, subst}
use Rattle.nl_dirs.specs.Private.Stored.{stored}
use Rattle.nl_dirs.specs.Records.{AreBytes, Begins}
use Rattle.nl_dirs.proofs.Holding.{first_at}
use Rattle.nl_dirs.proofs.reading.first_name.Goals as goal

pub returns-in-Some : goal.returns-in-Some
returns-in-Some c =
    let same : c.bytes_of.result.now ≡ c.args.page.now = c.bytes_of.ensures.same in
    first_at c.args.page.now c.in-Some.field-0-1.now (stored c.in-Some.record)
    (subst AreBytes same c.bytes_of.ensures.small)
    (subst (λ (bytes : List ℕ). Begins bytes (stored c.in-Some.record) c.in-Some.field-0-1.now) same
    c.in-Some.ensures)
