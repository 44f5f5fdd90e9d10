use Rattle.std.proofs.lemmas.Result.{err_from_is_err_and}
use Rattle.nl_tree.specs.Facts.ReadingCalls.{stat_directory, stat_file, stat_refused}
use Rattle.nl_tree.proofs.reading.stat.Goals as goal

pub returns-in_err-inode : goal.returns-in_err-inode
returns-in_err-inode g c = λ held shown h means.
    let given = err_from_is_err_and c.from_residual.result c.from_residual.ensures.1 in
    rw (given.1, given.2)
    (stat_refused held shown means c.args.path.now c.in_err-inode.field-0.0 (c.in_err-inode.ensures held h))

pub returns-in-File : goal.returns-in-File
returns-in-File g c = λ held shown h means.
    let found = rw c.in-File.is at (c.in_ok-inode.ensures held h) in
    stat_file held shown means c.args.path.now c.in_ok-inode.inode c.size.result found
    (c.size.ensures held h)

pub returns-in-Directory : goal.returns-in-Directory
returns-in-Directory g c = λ held shown h means.
    let found = rw c.in-Directory.is at (c.in_ok-inode.ensures held h) in
    stat_directory held shown means c.args.path.now c.in_ok-inode.inode c.name_count.result found
    (c.name_count.ensures held h)
