use Rattle.std.proofs.lemmas.Result.{err_from_is_err_and}
use Rattle.nl_keep.proofs.StoreRefusals.{call_refused}
use Rattle.nl_keep.proofs.Calls.{does_call}
use Rattle.nl_keep.proofs.making.apply_call.Goals as goal

pub returns-clause-done : goal.returns-clause-done
returns-clause-done g c =
    does_call c.args.call c.applied.result c.in_ok-applied.field-0 (g.V.Volume.means c.args.volume.now)
    (g.V.Volume.means c.applied.new.volume) c.applied.ensures c.in_ok-applied.was

pub returns-in_err-applied-clause-refused : goal.returns-in_err-applied-clause-refused
returns-in_err-applied-clause-refused g c =
    let p = err_from_is_err_and c.from_residual.result c.from_residual.ensures.1 in
    rw (p.1, p.2) (λ w.
    call_refused w c.args.call c.applied.result c.in_err-applied.field-0.0 (g.V.Volume.means c.args.volume.now)
    (g.V.Volume.means c.applied.new.volume) c.applied.ensures c.in_err-applied.was)
