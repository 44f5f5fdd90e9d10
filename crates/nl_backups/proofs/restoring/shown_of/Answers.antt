use Rattle.std.proofs.lemmas.Result.{err_from_is_err_and}
use Rattle.nl_backups.proofs.restoring.shown_of.Goals as goal

pub returns-in_err-opened-clause-refused : goal.returns-in_err-opened-clause-refused
returns-in_err-opened-clause-refused g c =
    let exits = c.from_residual-in_err-opened in
    let p = err_from_is_err_and exits.result exits.ensures.1 in
    rw (p.1, p.2) (c.in_err-opened.ensures.refused c.args.image.now c.in_ok-volume.ensures.opened)
