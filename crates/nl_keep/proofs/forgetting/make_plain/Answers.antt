use Rattle.std.proofs.lemmas.Result.{err_from_is_err_and}
use Rattle.nl_keep.proofs.ForgetRefusals.{plain_refused}
use Rattle.nl_keep.proofs.Forgets.{made_plain}
use Rattle.nl_keep.proofs.forgetting.make_plain.Goals as goal

pub returns-clause-plain : goal.returns-clause-plain
returns-clause-plain g c =
    made_plain c.args.number c.applied.result c.in_ok-applied.field-0 (g.V.Volume.means c.args.volume.now)
    (g.V.Volume.means c.applied.new.volume) c.applied.ensures c.in_ok-applied.was

pub returns-in_err-applied-clause-refused : goal.returns-in_err-applied-clause-refused
returns-in_err-applied-clause-refused g c =
    let p = err_from_is_err_and c.from_residual.result c.from_residual.ensures.1 in
    rw (p.1, p.2) (λ w means.
    plain_refused c.args.number c.applied.result c.in_err-applied.field-0.0 w (g.V.Volume.means c.args.volume.now)
    (g.V.Volume.means c.applied.new.volume) c.applied.ensures c.in_err-applied.was means)
