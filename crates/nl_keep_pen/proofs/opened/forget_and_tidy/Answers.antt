use Rattle.std.proofs.Common.{inl, inr}
use Rattle.std.proofs.lemmas.Result.{err_from_is_err_and}
use Rattle.nl_keep_pen.proofs.Images.{forgets_and_tidies}
use Rattle.nl_keep_pen.proofs.opened.forget_and_tidy.Goals as goal

pub returns-clause-forgets : goal.returns-clause-forgets
returns-clause-forgets g c =
    forgets_and_tidies c.args.round.now.moment c.args.numbers.now c.args.volume.pen c.in_ok-volume.volume.pen
    c.tidy_if_due.new.volume.pen c.in_ok-volume.ensures.forgets c.in_ok-tidy_if_due.ensures.tidies

pub returns-in_err-volume-clause-refused : goal.returns-in_err-volume-clause-refused
returns-in_err-volume-clause-refused g c =
    let p = err_from_is_err_and c.from_residual.result c.from_residual.ensures.1 in
    rw (p.1, p.2) (λ w means. inl (c.in_err-volume.ensures.refused w means))

pub returns-in_err-tidy_if_due-clause-refused : goal.returns-in_err-tidy_if_due-clause-refused
returns-in_err-tidy_if_due-clause-refused g c =
    let p = err_from_is_err_and c.from_residual-in_err-tidy_if_due.result c.from_residual-in_err-tidy_if_due.ensures.1 in
    rw (p.1, p.2) (λ w means. inr (inr c.in_err-tidy_if_due.ensures.refused))
