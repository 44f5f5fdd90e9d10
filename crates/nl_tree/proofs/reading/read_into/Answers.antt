use Rattle.std.proofs.Common.{length}
use Rattle.std.proofs.lemmas.Result.{err_from_is_err_and}
use Rattle.nl_tree.specs.Facts.ReadingCalls.{read_file, read_refused}
use Rattle.nl_tree.proofs.reading.read_into.Goals as goal

pub returns-in_err-file-clause-reads : goal.returns-in_err-file-clause-reads
returns-in_err-file-clause-reads g c = λ held shown h means.
    let given = err_from_is_err_and c.from_residual.result c.from_residual.ensures.1 in
    rw (given.1, given.2)
    (read_refused held shown means c.args.offset
    (length c.args.into.now) c.args.path.now c.in_err-file.field-0.0 (c.in_err-file.ensures held h))

pub returns-clause-reads : goal.returns-clause-reads
returns-clause-reads g c = λ held shown h means.
    read_file held shown means c.args.offset (length c.args.into.now) c.args.path.now c.in_ok-file.file _
    (c.in_ok-file.ensures held h) (c.read_file_into.ensures.reads held h)
