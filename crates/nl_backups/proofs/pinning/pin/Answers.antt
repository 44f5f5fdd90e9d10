use Rattle.std.proofs.lemmas.Result.{err_from_is_err_and}
use Rattle.nl_backups.specs.Refusals.{RefusesPinning}
use Rattle.nl_backups.proofs.PassedOn.{of_image}
use Rattle.nl_backups.proofs.pinning.pin.Goals as goal

pub returns-in_err-done-clause-refused : goal.returns-in_err-done-clause-refused
returns-in_err-done-clause-refused g c =
    let exits = c.from_residual-in_err-done in
    let p = err_from_is_err_and exits.result exits.ensures.1 in
    rw (p.1, p.2)
    (of_image (RefusesPinning c.args.terms.moment) _ c.in_ok-image.image.items c.as_slice.result.now c.in_err-done.field-0.0
    c.in_ok-image.ensures.read c.as_slice.ensures.value c.in_err-done.ensures.refused)
