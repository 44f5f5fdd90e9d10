use Rattle.nl_script.proofs.FilesRead.{first_fewer, first_run}
use Rattle.nl_script.proofs.lines.first_files.Goals as goal

pub returns-clause-fewer : goal.returns-clause-fewer
returns-clause-fewer g c =
    first_fewer g.V.Volume.habits.does c.args.mount c.in-Some.held.now c.args.paths.now
    c.in_ok-first.first.items c.in_ok-first.ensures.files

pub returns-clause-run : goal.returns-clause-run
returns-clause-run g c =
    first_run g.V.Volume.habits.does c.args.mount c.in-Some.held.now c.args.volume.now c.args.paths.now
    c.in_ok-first.first.items
    c.in-Some.ensures c.in_ok-first.ensures.files
