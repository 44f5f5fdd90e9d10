use Rattle.std.proofs.Common.{inr}
use Rattle.std.proofs.lemmas.Result.{err_from_is_err_and}
use Rattle.nl_backups.proofs.OneWorld.{has_rows, rows_ascend}
use Rattle.nl_backups.proofs.asking.opened_with_rows.Goals as goal

pub returns-in_err-rows-clause-refused : goal.returns-in_err-rows-clause-refused
returns-in_err-rows-clause-refused g c =
    let exits = c.from_residual-in_err-rows in
    let p = err_from_is_err_and exits.result exits.ensures.1 in
    rw (p.1, p.2) (inr c.in_err-rows.ensures.refused)

pub returns-in_err-wish-clause-refused : goal.returns-in_err-wish-clause-refused
returns-in_err-wish-clause-refused g c =
    let exits = c.from_residual-in_err-wish in
    let p = err_from_is_err_and exits.result exits.ensures.1 in
    rw (p.1, p.2) tt

pub returns-clause-rows : goal.returns-clause-rows
returns-clause-rows g c =
    has_rows c.pens_of_one_image_mean_one_world.ensures c.args.image.now c.in_ok-volume.volume.volume.pen
    c.in_ok-volume.ensures.opened c.in_ok-rows.rows c.in_ok-rows.ensures.rows

pub returns-clause-ascend : goal.returns-clause-ascend
returns-clause-ascend g c =
    rows_ascend c.pens_of_one_image_mean_one_world.ensures c.args.image.now c.in_ok-volume.volume.volume.pen
    c.in_ok-volume.ensures.opened c.in_ok-rows.rows c.in_ok-rows.ensures.rows
