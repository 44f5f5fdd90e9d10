use Rattle.std.proofs.lemmas.Result.{err_from_is_err_and}
use Rattle.nl_tree.specs.Facts.ReadingCalls.{list_refused, list_shown}
use Rattle.nl_tree.proofs.reading.list.Goals as goal

pub returns-in_err-directory : goal.returns-in_err-directory
returns-in_err-directory g c = λ held shown h means.
    let given = err_from_is_err_and c.from_residual.result c.from_residual.ensures.1 in
    rw (given.1, given.2)
    (λ _.
    list_refused held shown means c.args.path.now c.in_err-directory.field-0.0
    (c.in_err-directory.ensures held h))

pub returns : goal.returns
returns g c = λ held shown h means.
    list_shown held shown means c.args.path.now c.in_ok-directory.directory c.listed_names.result
    (c.in_ok-directory.ensures held h)
    (λ records is. c.listed_names.ensures.names held records h is)
    c.listed_names.ensures.refused
