use Rattle.nl_script.proofs.FilesRead.{run_all, run_long}
use Rattle.nl_script.proofs.running.run_events.Goals as goal

pub returns-clause-run : goal.returns-clause-run
returns-clause-run g c =
    let done = c.in_ok-replies.ensures.run in
    run_all g.V.Volume.habits.does c.args.volume.now c.run_rest.new.volume c.args.events.now
    c.new.result.items done.0 c.in_ok-replies.replies.items
    c.new.ensures.items done.1 done.2

pub returns-clause-count : goal.returns-clause-count
returns-clause-count g c =
    run_long g.V.Volume.habits.does c.args.volume.now c.run_rest.new.volume c.args.events.now
    c.in_ok-replies.replies.items
    (returns-clause-run g c)
