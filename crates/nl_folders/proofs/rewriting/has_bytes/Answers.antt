use Rattle.std.proofs.Common.{true, false, sym, refl, ◌∙◌}
use Rattle.nl_folders.proofs.FileBytes.{has_bytes_by}
use Rattle.nl_folders.proofs.rewriting.has_bytes.Goals as goal

pub returns-then-eq : goal.returns-then-eq
returns-then-eq c =
    has_bytes_by c.args.rest.now c.args.bytes.now c.min-shared.result true c.are_zeros.result
    c.min-shared.ensures (sym c.if-eq.true ∙ c.eq.ensures) c.are_zeros.ensures

pub returns-else-eq : goal.returns-else-eq
returns-else-eq c =
    c.if-eq.false
    ∙ has_bytes_by c.args.rest.now c.args.bytes.now c.min-shared.result false _ c.min-shared.ensures
    (sym c.if-eq.false ∙ c.eq.ensures) refl
