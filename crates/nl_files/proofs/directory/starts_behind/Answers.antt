use Rattle.std.proofs.Common.{sym}
use Rattle.nl_files.proofs.Directories.{first_name_compared, no_first_name}
use Rattle.nl_files.proofs.directory.starts_behind.Goals as goal

pub returns-in-Some-first_name : goal.returns-in-Some-first_name
returns-in-Some-first_name c =
    let read = c.in-Some-first_name.ensures in
    rw (c.in-Some.is, c.is_lt.ensures)
    (first_name_compared c.args.name.now c.in-Some.page.now read.0 read.1 c.in-Some-first_name.first.now
    c.cmp.result read.2
    (sym c.cmp.ensures))

pub returns-in-None-first_name : goal.returns-in-None-first_name
returns-in-None-first_name c =
    let read = c.in-None-first_name.ensures in
    rw c.in-Some.is (no_first_name c.args.name.now c.in-Some.page.now read.0 read.1 read.2)
