use Rattle.std.proofs.Common.{ℕ, List, inr, subst}
use Rattle.std.proofs.lemmas.Result.{err_from_is_err_and}
use Rattle.nl_keep_pen.specs.Images.{ForgetsInImage}
use Rattle.nl_backups.proofs.forgetting.without.Goals as goal

pub returns-in_err-next-clause-refused : goal.returns-in_err-next-clause-refused
returns-in_err-next-clause-refused g c =
    let exits = c.from_residual-in_err-next in
    let p = err_from_is_err_and exits.result exits.ensures.1 in
    rw (p.1, p.2) (inr (
      c.as_slice.result.now,
      record {
        pen = c.in_ok-volume.volume.volume.pen;
        opened = c.in_ok-volume.ensures.opened;
        refuses = c.in_err-next.ensures.refused;
      },
    ))

pub returns-clause-forgets : goal.returns-clause-forgets
returns-clause-forgets g c =
    subst (λ (numbers : List ℕ). ForgetsInImage c.args.moment numbers c.args.image.now
    c.in_ok-next.next.items)
    c.as_slice.ensures.value (c.in_ok-next.ensures.forgets c.args.image.now c.in_ok-volume.ensures.opened)
