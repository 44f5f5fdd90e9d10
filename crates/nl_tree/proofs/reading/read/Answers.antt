use Rattle.std.proofs.lemmas.Result.{err_from_is_err_and}
use Rattle.nl_tree.specs.Facts.ReadingCalls.{read_refused, read_shown}
use Rattle.nl_tree.proofs.reading.read.Goals as goal

pub returns-in_err-file : goal.returns-in_err-file
returns-in_err-file g c = λ held shown h means.
    let given = err_from_is_err_and c.from_residual.result c.from_residual.ensures.1 in
    rw (given.1, given.2)
    (λ _.
    read_refused held shown means c.args.offset c.args.len c.args.path.now c.in_err-file.field-0.0
    (c.in_err-file.ensures held h))

pub returns : goal.returns
returns g c = λ held shown h means.
    read_shown held shown means c.args.offset c.args.len c.args.path.now c.in_ok-file.file c.file_bytes.result
    (c.in_ok-file.ensures held h)
    (c.file_bytes.ensures.bytes held h) c.file_bytes.ensures.refused
