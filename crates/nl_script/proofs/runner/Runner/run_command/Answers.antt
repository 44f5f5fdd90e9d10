use Rattle.nl_script.proofs.LineEnds.{files_told_end, listing_end}
use Rattle.nl_script.proofs.runner.Runner.run_command.Goals as goal

pub returns-in-Lssu-clause-done : goal.returns-in-Lssu-clause-done
returns-in-Lssu-clause-done g c =
    listing_end g.V.Volume.habits c.args.self.now.config c.args.number c.args.moment.now c.in-Lssu.all
    c.in-Lssu.long
    c.args.command c.args.self.now.volume _ c.list_segments.result _ _ c.in-Lssu.is c.pen.ensures
    (c.list_segments.ensures c.args.moment.now)

pub returns-in-Catm-clause-done : goal.returns-in-Catm-clause-done
returns-in-Catm-clause-done g c =
    files_told_end g.V.Volume.habits c.args.self.now.config c.args.number c.args.moment.now c.in-Catm.mount _
    c.in-Catm.paths
    c.args.command c.args.self.now.volume _ c.show_files.result _ _ c.in-Catm.is c.as_slice.ensures
    (c.show_files.ensures c.args.moment.now)
