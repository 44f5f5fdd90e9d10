use Rattle.nl_script.proofs.LineEnds.{told_end}
use Rattle.nl_script.proofs.lines.run_all.Goals as goal

pub returns-in-Ok : goal.returns-in-Ok
returns-in-Ok g c =
    told_end g.V.Volume.habits.does (g.V.Volume.habits.view c.args.volume.now) c.args.number c.args.moment c.args.command _ _
    c.in-Ok.events.items _ c.in-Ok.replies.items _ _ _ _ _
    c.is_quiet-quiet.ensures c.as_slice.ensures.value c.as_slice-in-Ok.ensures.value c.in-Ok.ensures.done
    c.tell_all.ensures.status c.tell_all.ensures.written
