use Rattle.nl_events.proofs.NotedEvents.{leaves-store}
use Rattle.nl_events.proofs.parts.Parts.step.Goals as goal

pub step_in_lists-requires : goal.step_in_lists-requires
step_in_lists-requires g c =
    leaves-store c.args.event.now c.in_default.not-Checkpoint c.in_default.not-Move c.in_default.not-Retire
    c.in_default.not-Resize
