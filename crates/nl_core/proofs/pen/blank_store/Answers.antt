use Rattle.nl_core.proofs.BlankVolumes.{blank-volume}
use Rattle.nl_core.proofs.pen.blank_store.Goals as goal

pub returns-clause-blank : goal.returns-clause-blank
returns-clause-blank g c =
    blank-volume c.args.geometry (g.D.Device.pages c.args.device) (g.D.Device.failed c.args.device)
    c.in_ok-store.store.store _ _ c.in_ok-store.ensures.new c.in_ok-space.ensures.content
    c.in_ok-space.ensures.failures
